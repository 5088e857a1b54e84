-- The round trips: the texts of the form are exactly those that the writer writes, each of one figure. Assumes nothing.
use mathlib.Core.Path.{◌≡◌, refl, sym, ap, ◌∙◌}
use mathlib.Core.Bool.{Bool, true, false, false≢true}
use mathlib.Core.Logic.{◌↔◌}
use mathlib.Core.List.{List, ◌++◌}
use Prim.Native.Nat.{ℕ, zero, suc, ◌≤◌, ◌<◌, ◌^◌}
use native.Mathlib.Omega.{arith}
use lib.ListN.{length, drop}
use lib.IntN.{ℤ, pos, negsuc, nat_abs}
use mir.Syntax.{w64}
use mir.Val.{SFits}
use borrow.Author.Tests.{ltb-true, lt-ltb, le-ltb, not-false}
use Rattle.refusals.specs.Outcome.{gives}
use Rattle.tonnage.specs.Text.{form, figure, signed, follow, digits, width_in, width, below0, tonnes, rest, text_of}
use Rattle.tonnage.specs.Services.{in64, read_rows, read_text, text_rows, write_text}
use Rattle.refusals.specs.Fault.{first}
use Rattle.refusals.proofs.Rows.{row_none, judged-gives}
use Rattle.tonnage.proofs.Runs.{length_digits, width_some, narrow}
use Rattle.tonnage.proofs.Answers.{length-text, sign-length}
use Rattle.tonnage.proofs.Decimal.{run-digits, run-width, run-tonnes, digits-all, digits-three, digits-follow, rest-follow, first-lean}
use Rattle.tonnage.proofs.Spelling.{Spelt, spelt-form, spelt-figure, form-spelt}

-- ---- the text of a figure

size_of : (z : ℤ) → follow (follow 0 (digits (width (tonnes z)) (tonnes z))) (digits 3 (rest z)) ≡ nat_abs z
size_of z = rw (digits-follow (tonnes z)) (rest-follow (nat_abs z))

size_above : (z : ℤ) → below0 z ≡ true → 0 < nat_abs z
size_above (pos n) h = absurd (false≢true h)
size_above (negsuc n) h = omega arith

spelt-text : (z : ℤ) → Spelt (below0 z) (digits (width (tonnes z)) (tonnes z)) (digits 3 (rest z)) (text_of z)
unfolding text_of
spelt-text z =
    record {
      spelt = refl;
      some = rw (length_digits (width (tonnes z)) (tonnes z)) (width_some (tonnes z));
      whole-digits = digits-all (width (tonnes z)) (tonnes z);
      lean = λ h. length_digits (width (tonnes z)) (tonnes z) ∙ first-lean (tonnes z) h;
      three = length_digits 3 (rest z);
      part-digits = digits-all 3 (rest z);
      above_zero = λ h. rw (size_of z) (size_above z h);
    }

pub text-form : (z : ℤ) → form (text_of z) ≡ true
text-form z = spelt-form (spelt-text z)

sign_back : (z : ℤ) → signed (below0 z) (nat_abs z) ≡ z
sign_back (pos n) = refl
sign_back (negsuc n) = refl

pub text-figure : (z : ℤ) → figure (text_of z) ≡ z
text-figure z = spelt-figure (spelt-text z) ∙ ap (signed (below0 z)) (size_of z) ∙ sign_back z

-- ---- the figure of a text

signed_below : (m : Bool) (n : ℕ) → (m ≡ true → 0 < n) → below0 (signed m n) ≡ m
signed_below true zero h = absurd (omega (arith, h refl))
signed_below true (suc n) h = refl
signed_below false n h = refl

signed-size : (m : Bool) (n : ℕ) → nat_abs (signed m n) ≡ n
signed-size true zero = refl
signed-size true (suc n) = refl
signed-size false n = refl

spelt_back : {m : Bool} {whole part text : List ℕ} → Spelt m whole part text → text_of (signed m (follow (follow 0 whole) part)) ≡ text
unfolding text_of
spelt_back {m} {whole} {part} s =
    let w : ℕ = follow 0 whole in
    let n : ℕ = follow w part in
    let wide = run-width whole s.whole-digits s.some s.lean in
    let last : digits 3 n ≡ part = ap (λ (k : ℕ). digits k n) (sym s.three) ∙ run-digits w part s.part-digits in
    rw (signed_below m n s.above_zero, signed-size m n, run-tonnes w part s.three s.part-digits, wide, run-digits 0 whole s.whole-digits, digits-three n, last)
    (sym s.spelt)

pub form-text : (text : List ℕ) → form text ≡ true → text_of (figure text) ≡ text
form-text text e = let s = form-spelt text e in ap text_of (spelt-figure s) ∙ spelt_back s

-- "a text is of the form exactly when it is the text of some figure", and of one only
pub exactly : (text : List ℕ) → (form text ≡ true) ↔ ((z : ℤ) × (text_of z ≡ text))
exactly text = (λ e. (figure text, form-text text e), λ p. rw (← p.1) (text-form p.0))

pub one_only : (y z : ℤ) → text_of y ≡ text_of z → y ≡ z
one_only y z e = sym (text-figure y) ∙ ap figure e ∙ text-figure z

-- ---- the services

-- what is accepted is exactly what the writer writes
pub accepted_written : (text : List ℕ) (z : ℤ) → read_text text ≡ gives z → text_of z ≡ text
unfolding read_text read_rows
accepted_written text z e =
    let g = judged-gives (first (read_rows text)) z (figure text) (sym e) in
    rw g.1 (form-text text (not-false (form text) (row_none _ _ g.0).0))

-- what is written reads back
pub written_accepted : (z : ℤ) → in64 z ≡ true → read_text (text_of z) ≡ gives z
unfolding read_text read_rows first
written_accepted z h = rw (text-form z, text-figure z, h)

-- "The longest text, for the lowest 64-bit number, has 21 bytes"
size_64 : (z : ℤ) → in64 z ≡ true → nat_abs z ≤ 9223372036854775808
size_64 (pos n) h = omega (arith, ltb-true n (2 ^ 63) h)
size_64 (negsuc n) h = omega (arith, ltb-true n (2 ^ 63) h)

pub longest : (z : ℤ) → in64 z ≡ true → length (text_of z) ≤ 21
longest z h =
    let t : tonnes z < 10 ^ 16 = omega (arith, size_64 z h) in
    omega (arith, length-text z, sign-length z, narrow 15 (tonnes z) t)

-- every figure of the program is one
pub within_64 : (z : ℤ) → SFits w64 z → in64 z ≡ true
within_64 (pos n) f = lt-ltb n (2 ^ 63) (omega (arith, f.sfits))
within_64 (negsuc n) f = lt-ltb n (2 ^ 63) (omega (arith, f.sfits))

pub longest_fits : (z : ℤ) → SFits w64 z → length (text_of z) ≤ 21
longest_fits z f = longest z (within_64 z f)

-- where the text fits, it is written
pub written : (z : ℤ) (buffer : List ℕ) → length (text_of z) ≤ length buffer
    → write_text buffer z ≡ record { answer = gives (length (text_of z)); text = text_of z ++ drop (length (text_of z)) buffer }
unfolding write_text text_rows first
written z buffer h = rw (le-ltb (length buffer) (length (text_of z)) h)

pub lowest_has_21 : length (text_of (negsuc 9223372036854775807)) ≡ 21
unfolding text_of digits width width_in
lowest_has_21 = refl
