use mathlib.Core.Path.{◌≡◌, sym, ap, ◌∙◌}
use Rattle.refusals.specs.Fault.{first, is_clear}
use Rattle.ledger.specs.Page.{page_tx, reads_rows}
use Rattle.ledger.proofs.Listed.{reads-ruled, writes-ruled}
use Rattle.ledger.proofs.Goodness.{not-reads, by-writes}
use Rattle.ledger.proofs.page.good.entries_good.Goals as goal
use Rattle.ledger.proofs.page.good.entries_good.Goals.{After-are_good}

-- what the first search says of the reads
reads : (c : After-are_good) → is_clear (first (reads_rows (page_tx c.args.page.bytes.now))) ≡ c.are_good.result
reads c =
    sym (c.are_good.ensures ∙ ap (λ rs. is_clear (first rs)) (reads-ruled (page_tx c.args.page.bytes.now) _ _ c.all_reads.ensures.starts c.all_reads.ensures.are))

pub returns-then-are_good : goal.returns-then-are_good
returns-then-are_good c =
    c.are_good-then-are_good.ensures
    ∙ ap (λ rs. is_clear (first rs)) (writes-ruled (page_tx c.args.page.bytes.now) _ _ c.all_writes.ensures.starts c.all_writes.ensures.are)
    ∙ by-writes _ (reads (goal.at.returns-then-are_good c).After-are_good ∙ c.if-are_good.true)

pub returns-else-are_good : goal.returns-else-are_good
returns-else-are_good c = c.if-are_good.false ∙ not-reads _ (reads (goal.at.returns-else-are_good c).After-are_good ∙ c.if-are_good.false)
