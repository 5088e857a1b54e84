use mathlib.Core.Path.{◌≡◌, sym, ◌∙◌}
use Rattle.refusals.specs.Fault.{clear}
use Rattle.refusals.proofs.Rows.{clear_is}
use Rattle.ledger.specs.Page.{page_fault}
use Rattle.ledger.specs.Inner.{Counted}
use Rattle.ledger.proofs.Faults.{check-taken}
use Rattle.ledger.proofs.Pages.{good-counted}
use Rattle.ledger.proofs.page.check.check_page.Goals as goal
use Rattle.ledger.proofs.page.check.check_page.Goals.{Else-not-good}

-- `check_page`: a good page gives its counts, another the exact check.
none : (c : Else-not-good) → page_fault c.args.bytes.now ≡ clear
none c = clear_is _ (sym c.if-not-good.false ∙ c.good.ensures)

counted : (c : Else-not-good) → Counted c.args.bytes.now
counted c = good-counted _ (none c)

pub returns-then-not-good : goal.returns-then-not-good
returns-then-not-good c = c.exactly.ensures

pub invariant_of-page : goal.invariant_of-page
invariant_of-page c = record { counted = counted (goal.at.invariant_of-page c).Else-not-good }

pub returns : goal.returns
returns c = check-taken _ _ c.counts.ensures (none (goal.at.returns c).Else-not-good)
