use Rattle.refusals.proofs.Answers.{given}
use mathlib.Core.Path.{◌≡◌, sym, ap, ◌∙◌}
use Prim.Native.Nat.{◌+◌}
use native.Mathlib.Omega.{arith}
use lib.IntN.{ℤ}
use lib.ListN.{length, length-set}
use lib.Seq.{sets, length-sets}
use mir.Facts.{to_z-of_z}
use mir.Syntax.{w64}
use mir.Val.{SFits, to_z, of_z}
use Rattle.tonnage.specs.declared.figure.Parts.{Parts}
use Rattle.tonnage.specs.Text.{width, tonnes, text_of}
use Rattle.tonnage.proofs.Answers.{parts_of, sign_of, sign-length, length-text, stored, too_small, fitting}
use Rattle.tonnage.proofs.text.write_tonnage.Goals as goal
use Rattle.tonnage.proofs.text.write_tonnage.Goals.{then-parts, else-parts, then-parts-2, else-parts-2, After-put, After-put-2, After-width-width, Joined-parts, Joined-parts-2}

-- `write_tonnage`: four stores, which are one run from the front.
-- the parts are those of the figure
parts : {z : ℤ} {p : Parts} → SFits w64 z → p ≡ parts_of (to_z w64 (of_z w64 z)) → p ≡ parts_of z
parts f e = rw (to_z-of_z f) at e

-- the tonnes begin behind the sign
start_is : (c : Joined-parts) → c.if-parts.start ≡ length (sign_of c.args.kilograms)
start_is c =
    let m = ap (λ p. p.minus) (parts c.ranges.kilograms c.split-parts.ensures) in
    elim c.if-parts.branch [ then-parts w ↦ rw (sym m ∙ w.if-parts.true) w.start-is | else-parts w ↦ rw (sym m ∙ w.if-parts.false) w.start-is ]

width_is : (c : After-width-width) → c.width-width.result ≡ width (tonnes c.args.kilograms)
width_is c = c.width-width.ensures.0 ∙ ap (λ p. width p.tonnes) (parts c.ranges.kilograms c.split-parts.ensures)

length-is : (c : After-width-width) → c.if-parts.start ≡ length (sign_of c.args.kilograms)
    → c.if-parts.start + c.width-width.result + 4 ≡ length (text_of c.args.kilograms)
length-is c s = rw (s, width_is c) (sym (length-text _))

-- what the buffer holds there, and at the end
sign_text : (c : Joined-parts-2) → c.if-parts-2.text ≡ sets c.args.text.now 0 (sign_of c.args.kilograms)
sign_text c =
    let m = ap (λ p. p.minus) (parts c.ranges.kilograms c.split-parts.ensures) in
    elim c.if-parts-2.branch [ then-parts-2 w ↦ rw (sym m ∙ w.if-parts-2.true) w.text-is | else-parts-2 w ↦ rw (sym m ∙ w.if-parts-2.false) w.text-is ]

whole-text : (c : After-put-2) → c.if-parts.start ≡ length (sign_of c.args.kilograms) → c.width-width.result ≡ width (tonnes c.args.kilograms)
    → c.if-parts-2.text ≡ sets c.args.text.now 0 (sign_of c.args.kilograms) → c.put-2.new.text ≡ sets c.args.text.now 0 (text_of c.args.kilograms)
whole-text c s w t =
    stored _ _ _ _ _ _ _ _ (parts c.ranges.kilograms c.split-parts.ensures) s w t c.put.ensures c.put-2.ensures

-- its length stays
sign-length-is : (c : Joined-parts-2) → length c.if-parts-2.text ≡ length c.args.text.now
sign-length-is c = ap length (sign_text c) ∙ simp length-sets

tonnes-length-is : (c : After-put) → length c.if-parts-2.text ≡ length c.args.text.now → length c.put.new.text ≡ length c.args.text.now
tonnes-length-is c s = ap length c.put.ensures ∙ simp length-sets s

pub overflow_add-point : goal.overflow_add-point
overflow_add-point c = omega (arith, start_is (goal.at.overflow_add-point c).Joined-parts, sign-length c.args.kilograms, c.width-width.ensures.1)

pub overflow_add-length : goal.overflow_add-length
overflow_add-length c = omega (arith, start_is (goal.at.overflow_add-length c).Joined-parts, sign-length c.args.kilograms, c.width-width.ensures.1)

pub returns-then-text-length : goal.returns-then-text-length
returns-then-text-length c =
    let g = goal.at.returns-then-text-length c in
    ap (λ o. record { answer = o; text = c.args.text.now }) (given c.at.ensures) ∙ too_small _ _ _ (length-is g.After-width-width (start_is g.Joined-parts)) c.if-text-length.true

pub put-requires : goal.put-requires
put-requires c = omega (arith, sign-length-is (goal.at.put-requires c).Joined-parts-2)

pub bounds-text-point : goal.bounds-text-point
bounds-text-point c =
    let g = goal.at.bounds-text-point c in
    omega (arith, tonnes-length-is g.After-put (sign-length-is g.Joined-parts-2))

pub put-requires-2 : goal.put-requires-2
put-requires-2 c =
    let g = goal.at.put-requires-2 c in
    simp length-set (omega (arith, tonnes-length-is g.After-put (sign-length-is g.Joined-parts-2)))

pub returns : goal.returns
returns c =
    let g = goal.at.returns c in
    let s = start_is g.Joined-parts in
    fitting _ _ _ _ (length-is g.After-width-width s) c.if-text-length.false (whole-text g.After-put-2 s (width_is g.After-width-width) (sign_text g.Joined-parts-2))
