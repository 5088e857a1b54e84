use mathlib.Core.Path.{◌≡◌, ap, ◌∙◌}
use Rattle.std.specs.Prelude.{Ok}
use Rattle.refusals.specs.Fault.{clear}
use Rattle.refusals.proofs.Answers.{handed}
use Rattle.ledger.specs.Page.{page_fault}
use Rattle.ledger.specs.Services.{taken}
use Rattle.ledger.proofs.Faults.{taken_none, refused-some, read_taken, read-refused}
use Rattle.ledger.proofs.Pages.{good-counted}
use Rattle.ledger.proofs.page.read.read_page.Goals as goal
use Rattle.ledger.proofs.page.read.read_page.Goals.{In_ok-check_page}

-- the page of a good check has no fault
good : (c : In_ok-check_page) → page_fault c.args.bytes.now ≡ clear
good c = taken_none _ _ c.in_ok-check_page.ensures

pub returns-in_err-check_page : goal.returns-in_err-check_page
returns-in_err-check_page c =
    ap taken (handed c.from_residual.ensures.1) ∙ read-refused _ _ _ (refused-some _ _ _ c.in_err-check_page.ensures)

pub invariant_of-page : goal.invariant_of-page
invariant_of-page c = record { counted = good-counted _ (good (goal.at.invariant_of-page c).In_ok-check_page) }

pub returns : goal.returns
returns c =
    ap (λ t. taken (Ok t)) c.transaction.ensures ∙ read_taken _ (good (goal.at.returns c).In_ok-check_page)
