use Rattle.planner.specs.Ranks.{demands, nth}
use Rattle.planner.proofs.Placing.{Placing}
use Rattle.planner.proofs.schedule.fill_order.Given as goal

-- `planner::schedule::fill_order` meets its contract. The invariant is `Placing`; the set of those left is the measure. Assumes nothing.
abbrev pub invariant-loop-p : goal.invariant-loop-p
invariant-loop-p l = Placing (demands l.blockers) (nth l.pages) l.fn.kept l.initial.order l.order l.left l.k

abbrev pub decreases-loop-p : goal.decreases-loop-p
decreases-loop-p l = l.left
