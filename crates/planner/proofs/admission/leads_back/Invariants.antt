use Prim.Native.Nat.{◌-◌, ◌^◌, ◌<◌}
use Rattle.orders.proofs.Worklist.{Reached}
use Rattle.sets.specs.Set.{member}
use Rattle.planner.specs.Ranks.{demands}
use Rattle.planner.proofs.admission.leads_back.Given as goal

-- `planner::admission::leads_back` meets its contract. The invariant is `Reached`, of the demands turned round; the measure is what `done` lacks of 2 ^ 64. Assumes nothing.
abbrev pub invariant-loop-d : goal.invariant-loop-d
invariant-loop-d l = (l.done < 2 ^ 64) × Reached (λ a b. demands l.blockers b a) (member l.fn.kept) l.t (member l.reached) (member l.done)

abbrev pub decreases-loop-d : goal.decreases-loop-d
decreases-loop-d l = 2 ^ 64 - l.done
