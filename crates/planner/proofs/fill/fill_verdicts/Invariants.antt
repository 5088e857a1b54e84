use mathlib.Core.Path.{◌≡◌}
use mathlib.Core.List.{◌++◌}
use lib.ListN.{drop}
use mathlib.Core.Bool.{cond}
use Rattle.sets.specs.Set.{member}
use Rattle.lists.specs.Tables.{tab}
use Rattle.planner.proofs.fill.fill_verdicts.Given as goal

-- `planner::fill::fill_verdicts` meets its contract. The invariant: the first i verdicts are filled. Assumes nothing.
abbrev pub invariant-loop-i : goal.invariant-loop-i
invariant-loop-i l = l.verdicts ≡ tab l.i (λ j. cond (member l.fn.current j) (cond (member l.fn.kept j) 0 2) 1) ++ drop l.i l.initial.verdicts
