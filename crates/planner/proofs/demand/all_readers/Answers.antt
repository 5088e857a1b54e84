use native.Mathlib.Omega.{arith}
use Rattle.ledger.proofs.Pages.{good-counted}
use Rattle.planner.proofs.Demanding.{reading_begins}
use Rattle.planner.proofs.demand.all_readers.Goals as goal

pub loop-rank-init : goal.loop-rank-init
loop-rank-init c = reading_begins _ _

pub invariant_of-add_reads : goal.invariant_of-add_reads
invariant_of-add_reads c = record { counted = rw c.page_at-bytes.ensures (good-counted _ (c.requires.good c.loop-rank.rank (omega arith))) }
