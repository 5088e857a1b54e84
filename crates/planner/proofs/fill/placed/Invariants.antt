use mathlib.Core.Path.{◌≡◌}
use Prim.Native.Nat.{ℕ}
use lib.Dec.{eqb}
use lib.ListN.{take}
use Rattle.lists.specs.Members.{any}
use Rattle.sets.specs.Set.{member}
use Rattle.planner.proofs.fill.placed.Given as goal

-- `planner::fill::placed` meets its contract. The invariant: the set has the entries so far. Assumes nothing.
abbrev pub invariant-loop-page : goal.invariant-loop-page
invariant-loop-page l = (i : ℕ) → member l.set i ≡ any (eqb i) (take l.page-index l.order)
