use mathlib.Core.Path.{ap, ◌∙◌}
use borrow.Author.Tests.{eq-eqb, ne_eqb}
use Rattle.refusals.proofs.Answers.{clear-ok}
use Rattle.refusals.specs.Fault.{is_clear}
use Rattle.ledger.specs.Good.{framed}
use Rattle.ledger.proofs.page.good.framed.Goals as goal

-- `framed`: the tests in turn.
pub returns-then-page-ne-PAGE : goal.returns-then-page-ne-PAGE
unfolding framed
returns-then-page-ne-PAGE c = rw (ne_eqb _ _ c.if-page-ne-PAGE.true)

pub returns-then-page-ne-MARK : goal.returns-then-page-ne-MARK
unfolding framed
returns-then-page-ne-MARK c = rw (eq-eqb _ _ c.if-page-ne-PAGE.false, ne_eqb _ _ c.if-page-ne-MARK.true)

pub returns-then-page-ne0 : goal.returns-then-page-ne0
unfolding framed
returns-then-page-ne0 c =
    rw (eq-eqb _ _ c.if-page-ne-PAGE.false, eq-eqb _ _ c.if-page-ne-MARK.false, ne_eqb _ _ c.if-page-ne0.true)

-- what the counts are found to be decides
pub returns : goal.returns
unfolding framed
returns c =
    rw (eq-eqb _ _ c.if-page-ne-PAGE.false, eq-eqb _ _ c.if-page-ne-MARK.false, eq-eqb _ _ c.if-page-ne0.false)
    (c.is_ok.ensures.value ∙ clear-ok c.count_fault.result ∙ ap is_clear c.count_fault.ensures)
