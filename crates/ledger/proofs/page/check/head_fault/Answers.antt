use Rattle.refusals.proofs.Answers.{told}
use mathlib.Core.Path.{◌≡◌, sym, ◌∙◌}
use native.Mathlib.Omega.{arith}
use lib.ListN.{length, get_or}
use Rattle.octets.specs.Bytes.{field, weighed}
use Rattle.ledger.proofs.Faults.{is_one, is_two, is_mark, is_three, is_counts}
use Rattle.ledger.proofs.page.check.head_fault.Goals as goal
use Rattle.ledger.proofs.page.check.head_fault.Goals.{After-weigh, Else-page-ne-MARK, Else-page-ne-PAGE, Else-weigh-le4}

-- `head_fault`: the tests in turn.
-- what the tests before say
long : (c : Else-page-ne-PAGE) → length c.args.page.now ≡ 512
long c = c.if-page-ne-PAGE.false

weight : (c : After-weigh) → c.weigh.result ≡ weighed c.args.page.now 508
weight c = c.weigh.ensures

sum : (c : Else-weigh-le4) → let p = c.args.page.now in weighed p 508 ≡ field p 508 4
sum c = sym c.weigh.ensures ∙ c.if-weigh-le4.false ∙ c.le4.ensures

mark : (c : Else-page-ne-MARK) → get_or c.args.page.now 0 0 ≡ 0x54
mark c = c.if-page-ne-MARK.false

pub returns-then-page-ne-PAGE : goal.returns-then-page-ne-PAGE
returns-then-page-ne-PAGE c = (told c.at.ensures) ∙ is_one c.args.page.now c.if-page-ne-PAGE.true

pub returns-then-weigh-le4 : goal.returns-then-weigh-le4
returns-then-weigh-le4 c =
    (told c.at-then-weigh-le4.ensures) ∙ is_two _ (long (goal.at.returns-then-weigh-le4 c).Else-page-ne-PAGE) (λ e. c.if-weigh-le4.true (weight (goal.at.returns-then-weigh-le4 c).After-weigh ∙ e ∙ sym c.le4.ensures))

pub returns-then-page-ne-MARK : goal.returns-then-page-ne-MARK
returns-then-page-ne-MARK c =
    (told c.at-then-page-ne-MARK.ensures) ∙ is_mark _ (long (goal.at.returns-then-page-ne-MARK c).Else-page-ne-PAGE) (sum (goal.at.returns-then-page-ne-MARK c).Else-weigh-le4) c.if-page-ne-MARK.true

pub returns-then-page-ne0 : goal.returns-then-page-ne0
returns-then-page-ne0 c =
    (told c.at-then-page-ne0.ensures) ∙ is_three _ (long (goal.at.returns-then-page-ne0 c).Else-page-ne-PAGE) (sum (goal.at.returns-then-page-ne0 c).Else-weigh-le4) (mark (goal.at.returns-then-page-ne0 c).Else-page-ne-MARK) c.if-page-ne0.true

pub overflow_cast-page : goal.overflow_cast-page
overflow_cast-page c = omega (arith, c.type_inv.page 1)

pub overflow_cast-page-2 : goal.overflow_cast-page-2
overflow_cast-page-2 c = omega (arith, c.type_inv.page 2)

pub returns : goal.returns
returns c =
    c.count_fault.ensures ∙ is_counts _ (long (goal.at.returns c).Else-page-ne-PAGE) (sum (goal.at.returns c).Else-weigh-le4) (mark (goal.at.returns c).Else-page-ne-MARK) c.if-page-ne0.false
