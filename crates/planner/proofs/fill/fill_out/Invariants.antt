use mathlib.Core.Path.{◌≡◌}
use mathlib.Core.List.{◌++◌}
use Prim.Native.Nat.{◌*◌}
use lib.ListN.{take, drop}
use Rattle.planning.specs.Plan.{gathered}
use Rattle.planner.proofs.fill.fill_out.Given as goal

-- `planner::fill::fill_out` meets its contract. The invariant: the first j pages are gathered. Assumes nothing.
abbrev pub invariant-loop-j : goal.invariant-loop-j
invariant-loop-j l = l.out ≡ gathered l.batch (take l.j l.order) ++ drop (512 * l.j) l.initial.out
