use Rattle.planner.proofs.Demanding.{Reading}
use Rattle.planner.proofs.demand.all_readers.Given as goal

-- `planner::demand::all_readers` meets its contract. The invariant is `Reading`. Assumes nothing.
abbrev pub invariant-loop-rank : goal.invariant-loop-rank
invariant-loop-rank l = Reading l.batch l.pages l.readers l.rank
