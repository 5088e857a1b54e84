use Rattle.refusals.proofs.Answers.{told, handed}
use Rattle.ledger.proofs.Gated.{all-good, own_rows, ticket_rows, pages_bad, pages-again, pages-rest}
use Rattle.ledger.proofs.Tickets.{again_first}
use Rattle.ledger.specs.Gate.{again}
use Rattle.refusals.proofs.Rows.{row_found, row_missed}
use Rattle.refusals.specs.Fault.{clear, first, finding}
use mathlib.Core.Path.{◌≡◌, sym, ap, ◌∙◌}
use native.Mathlib.Omega.{arith}
use Rattle.ledger.proofs.batch.pages_fault.Goals as goal
use Rattle.ledger.proofs.batch.pages_fault.Goals.{In_default, In_ok-page_fault}

-- `pages_fault`: the searches in turn.
-- no page is bad
no-bad : (c : In_ok-page_fault) → let a = c.args in first (own_rows a.batch.now a.keys) ≡ clear
no-bad c = sym c.in_ok-page_fault.ensures

-- no ticket stands again
no-again : (c : In_default) → let a = c.args in first (ticket_rows a.batch.now a.keys) ≡ clear
no-again c =
    row_missed 15 _ (again c.args.batch.now) (c.in_default.ensures ∙ again_first c.args.batch.now _ c.args.tickets.now (omega (arith, c.requires.batch_len_bound, c.told-tickets)) c.requires.tickets_of)

pub returns-in_err-page_fault : goal.returns-in_err-page_fault
returns-in_err-page_fault c =
    let a = c.args in
    ap finding (handed c.from_residual.ensures.1) ∙ sym (pages_bad a.batch.now a.keys (sym c.in_err-page_fault.ensures))

pub returns-in-Some : goal.returns-in-Some
returns-in-Some c =
    let b = c.args.batch.now in
    told c.at.ensures
    ∙ sym (pages-again b c.args.keys (no-bad (goal.at.returns-in-Some c).In_ok-page_fault) (row_found 15 _ (again b) _ (c.in-Some.ensures ∙ again_first b _ c.args.tickets.now (omega (arith, c.requires.batch_len_bound, c.told-tickets)) c.requires.tickets_of)))

pub first_beyond-requires : goal.first_beyond-requires
first_beyond-requires c = all-good _ _ (omega arith) (no-bad (goal.at.first_beyond-requires c).In_ok-page_fault)

pub returns-in-Some-first_beyond : goal.returns-in-Some-first_beyond
returns-in-Some-first_beyond c =
    let a = c.args in
    told c.at-in-Some-first_beyond.ensures
    ∙ sym (pages-rest a.batch.now a.keys (no-bad (goal.at.returns-in-Some-first_beyond c).In_ok-page_fault) (no-again (goal.at.returns-in-Some-first_beyond c).In_default) ∙ row_found 16 _ _ _ c.in-Some-first_beyond.ensures)

pub returns : goal.returns
returns c =
    let a = c.args in
    sym (pages-rest a.batch.now a.keys (no-bad (goal.at.returns c).In_ok-page_fault) (no-again (goal.at.returns c).In_default) ∙ row_missed 16 _ _ c.in_default-first_beyond.ensures)
