use lib.ListN.{length}
use Rattle.std.specs.Slice.Iter.{chunks_exact_rest, chunks_exact_size}
use Rattle.ledger.proofs.Tickets.{Gathering}
use Rattle.ledger.proofs.Walked.{Walking}
use Rattle.ledger.proofs.batch.fill_tickets.Given as goal

-- the pages in turn
abbrev pub invariant-loop-i : goal.invariant-loop-i
invariant-loop-i l =
    let i = l.i-iterator.count in
    record {
      walking : Walking l.batch (chunks_exact_size l.i-iterator.iter) (chunks_exact_rest l.i-iterator.iter) i;
      gathering : Gathering l.batch l.tickets (length l.initial.tickets) i;
    }
