use Rattle.std.specs.Slice.Iter.{chunks_exact_rest, chunks_exact_size}
use Rattle.refusals.proofs.Rows.{Passed}
use Rattle.ledger.specs.Gate.{rows_at}
use Rattle.ledger.proofs.Walked.{Walking}
use Rattle.ledger.proofs.batch.page_fault.Given as goal

-- a search by page
abbrev pub invariant-loop-i : goal.invariant-loop-i
invariant-loop-i l =
    let i = l.i-iterator.count in
    record {
      walking : Walking l.batch (chunks_exact_size l.i-iterator.iter) (chunks_exact_rest l.i-iterator.iter) i;
      passed : Passed (rows_at l.batch) i;
    }
