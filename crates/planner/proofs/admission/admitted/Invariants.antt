use mathlib.Core.List.{[]}
use Rattle.lists.specs.Tables.{upto}
use Rattle.orders.specs.Admission.{admit}
use Rattle.orders.specs.Walk.{Lists}
use Rattle.sets.specs.Set.{member}
use Rattle.planner.specs.Ranks.{demands, Awaits}
use Rattle.planner.proofs.admission.admitted.Given as goal

-- `planner::admission::admitted` meets its contract: at each turn the set holds the kept among the ranks below t. Assumes nothing.
abbrev pub invariant-loop-t : goal.invariant-loop-t
invariant-loop-t l = Lists (member l.kept) (admit (demands l.blockers) [] (upto l.t)) × Awaits l.blockers l.kept l.awaited
