use mathlib.Core.Path.{ap, ◌∙◌}
use Prim.Native.Nat.{ℕ}
use native.Mathlib.Nat.{one-mul}
use native.Mathlib.Omega.{arith}
use lib.Pow.{shl_exact}
use lib.Dec.{lit<}
use Rattle.sets.specs.Set.{member}
use Rattle.sets.proofs.Digits.{of_only}
use Rattle.sets.proofs.Set.only.Goals as goal

pub returns : goal.returns
returns c j = ap (λ (x : ℕ). member x j) (shl_exact 1 c.args.i 64 (lit< tt) (omega arith) ∙ one-mul _) ∙ of_only c.args.i j
