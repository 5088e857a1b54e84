use Rattle.planner.specs.Ranks.{demands}
use Rattle.planner.proofs.Candidates.{Untried, Blocks}
use Rattle.planner.proofs.schedule.next_free.Given as goal

-- `planner::schedule::next_free` meets its contract. The invariants are `Untried` of the candidates and `Blocks` of the blockers, whose set is the measure. Assumes nothing.
abbrev pub invariant-loop-q : goal.invariant-loop-q
invariant-loop-q l = Blocks (demands l.blockers) l.fn.left l.p l.others

abbrev pub decreases-loop-q : goal.decreases-loop-q
decreases-loop-q l = l.others

abbrev pub invariant-tickets : goal.invariant-tickets
invariant-tickets l = Untried (demands l.blockers) l.fn.left l.yielded l.p-iterator
