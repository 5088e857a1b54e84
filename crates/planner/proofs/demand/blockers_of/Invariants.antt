use Rattle.ledger.specs.Page.{page_tx}
use Rattle.planner.proofs.Demanding.{Written}
use Rattle.planner.proofs.demand.blockers_of.Given as goal

-- `planner::demand::blockers_of` meets its contract. The invariant is `Written`. Assumes nothing.
abbrev pub invariant-loop-i : goal.invariant-loop-i
invariant-loop-i l = Written l.readers (page_tx l.page.bytes.now).writes l.i l.all
