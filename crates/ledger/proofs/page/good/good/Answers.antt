use mathlib.Core.Path.{◌≡◌, sym, ◌∙◌}
use mathlib.Core.Bool.{true}
use Rattle.ledger.specs.Inner.{Counted}
use Rattle.ledger.specs.Good.{framed}
use Rattle.ledger.proofs.Goodness.{framed-counted, not-framed, not-closed, by_entries}
use Rattle.ledger.proofs.page.good.good.Goals as goal
use Rattle.ledger.proofs.page.good.good.Goals.{Else-not-framed}

-- `good`: the steps in turn.
-- what the steps found
frames : (c : Else-not-framed) → framed c.args.bytes.now ≡ true
frames c = sym c.framed.ensures ∙ c.if-not-framed.false

counted : (c : Else-not-framed) → Counted c.args.bytes.now
counted c = framed-counted _ (frames c)

pub returns-then-not-framed : goal.returns-then-not-framed
returns-then-not-framed c = not-framed _ (sym c.framed.ensures ∙ c.if-not-framed.true)

pub invariant_of-page : goal.invariant_of-page
invariant_of-page c = record { counted = counted (goal.at.invariant_of-page c).Else-not-framed }

pub returns-then-closed : goal.returns-then-closed
returns-then-closed c =
    c.entries_good.ensures ∙ by_entries _ (frames (goal.at.returns-then-closed c).Else-not-framed) (sym c.closed.ensures ∙ c.if-closed.true)

pub returns-else-closed : goal.returns-else-closed
returns-else-closed c = c.if-closed.false ∙ not-closed _ (sym c.closed.ensures ∙ c.if-closed.false)
