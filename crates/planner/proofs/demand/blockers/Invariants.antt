use Rattle.planner.proofs.Demanding.{Blocking}
use Rattle.planner.proofs.demand.blockers.Given as goal

-- `planner::demand::blockers` meets its contract. The invariant is `Blocking`. Assumes nothing.
abbrev pub invariant-loop-rank : goal.invariant-loop-rank
invariant-loop-rank l = Blocking l.batch l.pages l.readers l.blockers l.rank
