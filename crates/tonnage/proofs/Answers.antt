-- What the two services answer on each way through their code. Assumes nothing.
use mathlib.Core.Path.{◌≡◌, refl, sym, ◌∙◌}
use mathlib.Core.Bool.{Bool, true, false, cond}
use mathlib.Core.List.{List, [], ◌∷◌, ◌++◌}
use Prim.Native.Nat.{ℕ, zero, suc, ◌+◌, ◌≤◌, ◌<◌, ◌^◌, min}
use native.Mathlib.Nat.{zero-add}
use native.Mathlib.Numerals.{add-one}
use native.Mathlib.Omega.{arith}
use lib.ListN.{length, set, length-append}
use lib.Seq.{sets, sets-eq}
use lib.IntN.{ℤ, pos, negsuc, neg_ℤ}
use borrow.Author.Tests.{lt-ltb, le-ltb, ne_eqb}
use Rattle.lists.proofs.Stores.{sets_append}
use Rattle.refusals.specs.Outcome.{gives, refuses}
use Rattle.refusals.specs.Fault.{first}
use Rattle.tonnage.specs.declared.figure.Parts.{Parts}
use Rattle.tonnage.specs.Text.{minus, laid, magnitude, form, figure, signed, too_large, digits, width, below0, tonnes, rest, text_of}
use Rattle.tonnage.specs.Services.{in64, read_rows, read_text, text_rows, write_text}
use Rattle.tonnage.proofs.Laying.{and-false}
use Rattle.tonnage.proofs.Runs.{length_digits}

-- ---- reading

-- a magnitude with a minus is within 64 bits up to 2 to the 63
in64-minus : (n : ℕ) → 0 < n → n ≤ 9223372036854775808 → in64 (neg_ℤ (pos n)) ≡ true
in64-minus zero h k = absurd (omega arith)
in64-minus (suc n) h k = lt-ltb n (2 ^ 63) (omega arith)

out64_minus : (n : ℕ) → 9223372036854775808 < n → in64 (neg_ℤ (pos n)) ≡ false
out64_minus zero h = absurd (omega arith)
out64_minus (suc n) h = le-ltb n (2 ^ 63) (omega arith)

module _ (text : List ℕ) where
  pub unlaid : laid text ≡ false → read_text text ≡ refuses 18 0
  unfolding read_text read_rows first form
  unlaid l = rw l

  module _ (s : ℕ) (e : s ≡ min too_large (magnitude text)) where
    pub minus-zero : minus text ≡ true → s ≡ 0 → read_text text ≡ refuses 18 0
    unfolding read_text read_rows first form
    minus-zero m h =
        let z : magnitude text ≡ 0 = omega arith in
        simp (m, z, and-false)

    module _ (l : laid text ≡ true) where
      pub too_low : minus text ≡ true → 9223372036854775808 < s → read_text text ≡ refuses 19 0
      unfolding read_text read_rows first form figure
      too_low m h = simp (l, m, ne_eqb (magnitude text) 0 (omega arith), out64_minus (magnitude text) (omega arith))

      pub too_high : minus text ≡ false → 9223372036854775807 < s → read_text text ≡ refuses 19 0
      unfolding read_text read_rows first form figure
      too_high m h = simp (l, m, le-ltb (magnitude text) (2 ^ 63) (omega arith))

      low : minus text ≡ true → 0 < s → s ≤ 9223372036854775808 → read_text text ≡ gives (neg_ℤ (pos s))
      unfolding read_text read_rows first form figure
      low m h k =
          let z : magnitude text ≡ s = omega arith in
          simp (l, m, z, ne_eqb s 0 (omega arith), in64-minus s h k)

      high : minus text ≡ false → s ≤ 9223372036854775807 → read_text text ≡ gives (pos s)
      unfolding read_text read_rows first form figure
      high m k =
          let z : magnitude text ≡ s = omega arith in
          simp (l, m, z, lt-ltb s (2 ^ 63) (omega arith))

      pub taken : (m : Bool) → m ≡ minus text → (m ≡ true → (0 < s) × (s ≤ 9223372036854775808))
          → (m ≡ false → s ≤ 9223372036854775807) → read_text text ≡ gives (signed m s)
      taken true m h k = low (sym m) (h refl).0 (h refl).1
      taken false m h k = high (sym m) (k refl)

-- ---- writing

abbrev pub parts_of : ℤ → Parts
parts_of z = record { minus = below0 z; tonnes = tonnes z; rest = rest z }

abbrev pub sign_text : Bool → List ℕ
sign_text m = cond m (45 ∷ []) []

abbrev pub sign_of : ℤ → List ℕ
sign_of z = sign_text (below0 z)

pub sign-length : (z : ℤ) → length (sign_of z) ≤ 1
sign-length (pos n) = omega arith
sign-length (negsuc n) = omega arith

pub length-text : (z : ℤ) → length (text_of z) ≡ length (sign_of z) + width (tonnes z) + 4
unfolding text_of
length-text z = simp (length-append, length_digits) (omega arith)

module _ (z : ℤ) (buffer : List ℕ) where
  -- the sign, the tonnes, the comma and the rest, stored one after the other, are one run
  pub stored : (p : Parts) (s w : ℕ) (one two last : List ℕ) → p ≡ parts_of z → s ≡ length (sign_of z) → w ≡ width (tonnes z)
      → one ≡ sets buffer 0 (sign_of z) → two ≡ sets one s (digits w p.tonnes)
      → last ≡ sets (set two (s + w) 44) (s + w + 1) (digits 3 p.rest) → last ≡ sets buffer 0 (text_of z)
  unfolding text_of
  stored p s w one two last g e f i j k =
      let t : ℕ = tonnes z in
      let tail : List ℕ = 44 ∷ digits 3 (rest z) in
      rw (k, j, i, g)
      (sym (rw (← f)
      (sets_append buffer 0 (sign_of z) (digits w t ++ tail)
      ∙ rw (zero-add, ← e) (sets_append (sets buffer 0 (sign_of z)) s (digits w t) tail ∙ rw (length_digits w t, add-one)))))

  pub too_small : (n : ℕ) → n ≡ length (text_of z) → length buffer < n → record { answer = refuses 20 0; text = buffer } ≡ write_text buffer z
  unfolding write_text text_rows first
  too_small n e h = rw (lt-ltb (length buffer) (length (text_of z)) (rw e at h))

  pub fitting : (n : ℕ) (after : List ℕ) → n ≡ length (text_of z) → n ≤ length buffer → after ≡ sets buffer 0 (text_of z)
      → record { answer = gives n; text = after } ≡ write_text buffer z
  unfolding write_text text_rows first
  fitting n after e h f =
      let l : length (text_of z) ≤ length buffer = omega arith in
      rw (le-ltb (length buffer) (length (text_of z)) l, f, e, sets-eq (text_of z) buffer 0 (rw zero-add l), zero-add)
