use Rattle.sets.proofs.Digits.{of_or}
use Rattle.sets.proofs.Set.union.Goals as goal

-- `sets::Set::union` meets its contract. Assumes nothing.
pub returns : goal.returns
returns c = rw (c.self.view_is, c.b.view_is) (of_or c.args.self c.args.b)
