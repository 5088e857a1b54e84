use native.Mathlib.Omega.{arith}
use mathlib.Core.Path.{refl}
use Rattle.ledger.specs.Inner.{Counted}
use Rattle.node.proofs.Paged.{page-counted, page-head, page-good, page_bad}
use Rattle.node.proofs.nevolisca_read_page.Goals as goal
use Rattle.node.proofs.nevolisca_read_page.Goals.{In-Ok}

-- `nevolisca_read_page`: the arrays filled from the page, or the refusal as a word.
-- the page is good
counted : (c : In-Ok) → Counted c.args.page.now
counted c = page-counted _ _ c.check_page.ensures _ c.in-Ok.is

pub invariant_of-page : goal.invariant_of-page
invariant_of-page c = record { counted = counted (goal.at.invariant_of-page c).In-Ok }

pub returns-in-Ok : goal.returns-in-Ok
returns-in-Ok c =
    page-good _ _ c.check_page.ensures _ c.in-Ok.is _ _
    (record {
      head = page-head _ _ c.check_page.ensures _ c.in-Ok.is _ c.ticket.ensures;
      read-keys = c.fill_reads.ensures.keys_after;
      read-places = c.fill_reads.ensures.places_after;
      read-blocks = c.fill_reads.ensures.blocks_after;
      write-keys = c.fill_writes.ensures.keys_after;
      write_kinds_lem = c.fill_writes.ensures.kinds_after;
      write-values = c.fill_writes.ensures.values_after;
    })

pub returns-in-Err : goal.returns-in-Err
returns-in-Err c =
    page_bad _ _ c.check_page.ensures _ _ _ c.refused.ensures c.in-Err.is
