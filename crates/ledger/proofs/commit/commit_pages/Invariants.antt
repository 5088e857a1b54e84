use Prim.Native.Nat.{◌≤◌}
use Rattle.std.specs.Slice.Iter.{chunks_exact_rest, chunks_exact_size}
use Rattle.ledger.specs.Gate.{tx_at}
use Rattle.ledger.specs.State.{held, SameLists}
use Rattle.ledger.proofs.Commits.{Committing}
use Rattle.ledger.proofs.Walked.{Walking}
use Rattle.ledger.proofs.commit.commit_pages.Given as goal

-- the pages in turn
abbrev pub invariant-loop-i : goal.invariant-loop-i
invariant-loop-i l =
    let i = l.i-iterator.count in
    record {
      walking : Walking l.batch (chunks_exact_size l.i-iterator.iter) (chunks_exact_rest l.i-iterator.iter) i;
      same_lists : SameLists l.initial.state l.state;
      few : l.count ≤ i;
      committing : Committing (tx_at l.batch) (held l.initial.state) l.n l.initial.verdicts i l.count (held l.state) l.verdicts;
    }
