use Rattle.std.specs.Slice.Iter.{chunks_exact_rest, chunks_exact_size}
use Rattle.lists.proofs.Loops.{Unfound}
use Rattle.ledger.specs.Gate.{pages, tx_at, beyond}
use Rattle.ledger.proofs.Walked.{Walking}
use Rattle.ledger.proofs.batch.first_beyond.Given as goal

-- a search by page
abbrev pub invariant-loop-i : goal.invariant-loop-i
invariant-loop-i l =
    let i = l.i-iterator.count in
    record {
      walking : Walking l.batch (chunks_exact_size l.i-iterator.iter) (chunks_exact_rest l.i-iterator.iter) i;
      unfound : Unfound (λ j. beyond l.keys (tx_at l.batch j)) 0 (pages l.batch) i;
    }
