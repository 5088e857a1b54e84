use mathlib.Core.Path.{◌≡◌, refl, sym, ◌∙◌}
use Prim.Native.Nat.{ℕ, ◌<◌}
use borrow.Author.Tests.{eqb-false}
use native.Mathlib.Omega.{arith}
use Rattle.sets.specs.Set.{Lowest}
use Rattle.sets.proofs.Set.first.Goals as goal
use Rattle.sets.proofs.Set.first.Goals.{Else-is_empty}

filled : (c : Else-is_empty) → 0 < c.args.self
filled c = let other = eqb-false _ _ (sym c.is_empty.ensures ∙ c.if-is_empty.false) in omega arith

pub lowest-requires : goal.lowest-requires
lowest-requires c = filled (goal.at.lowest-requires c).Else-is_empty

-- the lowest, whatever it was reckoned by
lowest_at : {s n m : ℕ} → Lowest s n → n ≡ m → Lowest s m
lowest_at l e = rw e at l

pub returns : goal.returns
returns c = let p = filled (goal.at.returns c).Else-is_empty in record { some = (λ _. p, λ _. refl); value = lowest_at c.lowest.ensures (omega arith) }
