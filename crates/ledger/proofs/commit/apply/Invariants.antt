use Rattle.ledger.specs.Page.{page_tx}
use Rattle.ledger.specs.State.{held, SameLists}
use Rattle.ledger.proofs.Commits.{Writing}
use Rattle.ledger.proofs.commit.apply.Given as goal

-- the writes in turn
abbrev pub invariant-loop-j : goal.invariant-loop-j
invariant-loop-j l = record {
  same_lists : SameLists l.initial.state l.state;
  written : Writing l.stamp (held l.initial.state) (page_tx l.page.bytes.now).writes l.j (held l.state);
}
