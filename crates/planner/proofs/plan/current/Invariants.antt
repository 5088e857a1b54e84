use Prim.Native.Nat.{◌≤◌}
use Rattle.std.specs.Slice.Iter.{chunks_exact_rest, chunks_exact_size}
use Rattle.ledger.specs.State.{lent, versions}
use Rattle.ledger.specs.Gate.{pages, tx_at}
use Rattle.ledger.proofs.Walked.{Walking}
use Rattle.planning.specs.Plan.{current}
use Rattle.planner.proofs.Surveying.{Passed}
use Rattle.planner.proofs.plan.current.Given as goal

-- the current ones of the pages that were walked
abbrev pub invariant-loop-i : goal.invariant-loop-i
invariant-loop-i l =
    let i = l.i-iterator.count in
    record {
      walking : Walking l.batch (chunks_exact_size l.i-iterator.iter) (chunks_exact_rest l.i-iterator.iter) i;
      few : i ≤ pages l.batch;
      passed : Passed (current (versions (lent l.state)) (tx_at l.batch)) l.set i;
    }
