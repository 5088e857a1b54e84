use native.Mathlib.Omega.{arith}
use Rattle.sets.proofs.Digits.{of_minus}
use Rattle.sets.proofs.Set.minus.Goals as goal

-- `sets::Set::minus` meets its contract. Assumes nothing.
pub returns : goal.returns
returns c i = rw (← c.self.view_is, ← c.b.view_is) (of_minus c.self.inside.0 c.b.inside.0 i (omega arith) (omega arith))
