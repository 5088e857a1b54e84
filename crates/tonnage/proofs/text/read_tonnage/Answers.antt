use Rattle.refusals.proofs.Answers.{given}
use mathlib.Core.Path.{◌≡◌, sym, ◌∙◌}
use mathlib.Core.Bool.{true}
use native.Mathlib.Omega.{arith}
use mir.Facts.{to_z-of_z}
use Rattle.tonnage.specs.Text.{laid}
use Rattle.tonnage.proofs.Answers.{unlaid, minus-zero, too_low, too_high, taken}
use Rattle.tonnage.proofs.text.read_tonnage.Goals as goal
use Rattle.tonnage.proofs.text.read_tonnage.Goals.{Else-not-laid}

-- `read_tonnage`: the form, then the range, on each side of the sign.
-- past the first test the text is laid out well
well : (c : Else-not-laid) → laid c.args.text.now ≡ true
well c = sym c.laid.ensures ∙ c.if-not-laid.false

pub returns-then-not-laid : goal.returns-then-not-laid
returns-then-not-laid c =
    given c.at.ensures ∙ sym (unlaid _ (sym c.laid.ensures ∙ c.if-not-laid.true))

pub size-size-requires : goal.size-size-requires
size-size-requires c = well (goal.at.size-size-requires c).Else-not-laid

pub returns-then-size-eq0 : goal.returns-then-size-eq0
returns-then-size-eq0 c =
    given c.at-then-size-eq0.ensures ∙ sym (minus-zero _ _ c.size-size.ensures (sym c.minus-minus.ensures ∙ c.if-minus.true) c.if-size-eq0.true)

pub returns-then-size-gt-LOWEST : goal.returns-then-size-gt-LOWEST
returns-then-size-gt-LOWEST c =
    given c.at-then-size-gt-LOWEST.ensures ∙ sym (too_low _ _ c.size-size.ensures (well (goal.at.returns-then-size-gt-LOWEST c).Else-not-laid) (sym c.minus-minus.ensures ∙ c.if-minus.true) c.if-size-gt-LOWEST.true)

pub returns-then-size-gt-HIGHEST : goal.returns-then-size-gt-HIGHEST
returns-then-size-gt-HIGHEST c =
    given c.at-then-size-gt-HIGHEST.ensures ∙ sym (too_high _ _ c.size-size.ensures (well (goal.at.returns-then-size-gt-HIGHEST c).Else-not-laid) (sym c.minus-minus.ensures ∙ c.if-minus.false) c.if-size-gt-HIGHEST.true)

pub returns : goal.returns
returns c =
    rw (to_z-of_z (record { sfits = c.with_sign.type_inv }), c.with_sign.ensures)
    (sym (taken _ _ c.size-size.ensures (well (goal.at.returns c).Else-not-laid) _ c.minus-minus.ensures (grind arith) (grind arith)))
