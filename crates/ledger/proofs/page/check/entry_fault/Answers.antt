use Rattle.refusals.proofs.Answers.{handed}
use mathlib.Core.Path.{sym, ap, ◌∙◌}
use Rattle.refusals.specs.Fault.{first, finding}
use Rattle.refusals.proofs.Rows.{clear_is, append-clear, append-fault}
use Rattle.ledger.specs.Page.{reads_rows, writes_rows, entry_rows, page_tx}
use Rattle.ledger.proofs.Listed.{reads-ruled, writes-ruled}
use Rattle.ledger.proofs.page.check.entry_fault.Goals as goal

pub returns-then-entries_good : goal.returns-then-entries_good
returns-then-entries_good c = sym (clear_is _ (sym c.if-entries_good.true ∙ c.entries_good.ensures))

pub returns-in_err-fault : goal.returns-in_err-fault
unfolding entry_rows
returns-in_err-fault c =
    let t = page_tx c.args.page.bytes.now in
    ap finding (handed c.from_residual.ensures.1)
    ∙ sym
    (append-fault (reads_rows t) (writes_rows t)
    (sym (c.in_err-fault.ensures ∙ ap first (reads-ruled t _ _ c.all_reads.ensures.starts c.all_reads.ensures.are))))

pub returns : goal.returns
unfolding entry_rows
returns c =
    let t = page_tx c.args.page.bytes.now in
    c.fault-2.ensures
    ∙ ap first (writes-ruled t _ _ c.all_writes.ensures.starts c.all_writes.ensures.are)
    ∙ sym
    (append-clear (reads_rows t) (writes_rows t)
    (sym (c.in_ok-fault.ensures ∙ ap first (reads-ruled t _ _ c.all_reads.ensures.starts c.all_reads.ensures.are))))
