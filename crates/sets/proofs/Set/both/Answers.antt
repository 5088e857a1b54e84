use Rattle.sets.proofs.Digits.{of_and}
use Rattle.sets.proofs.Set.both.Goals as goal

-- `sets::Set::both` meets its contract. Assumes nothing.
pub returns : goal.returns
returns c = rw (c.self.view_is, c.b.view_is) (of_and c.args.self c.args.b)
