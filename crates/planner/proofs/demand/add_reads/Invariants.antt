use Rattle.ledger.specs.Page.{page_tx}
use Rattle.planner.proofs.Demanding.{Marking}
use Rattle.planner.proofs.demand.add_reads.Given as goal

-- `planner::demand::add_reads` meets its contract. The invariant is `Marking`. Assumes nothing.
abbrev pub invariant-loop-i : goal.invariant-loop-i
invariant-loop-i l = Marking (page_tx l.page.bytes.now).reads l.rank l.initial.readers l.readers l.i
