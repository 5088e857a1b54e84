-- Texts by their parts: of the form are exactly those that are spelt of a sign, whole tonnes and three digits. Assumes nothing.
use mathlib.Core.Path.{◌≡◌, refl, sym, ap, ap₂, ◌∙◌}
use mathlib.Core.Bool.{Bool, true, false, not, ◌&&◌, true≢false, cond}
use mathlib.Core.List.{List, [], ◌∷◌, ◌++◌, append_assoc}
use Prim.Native.Nat.{ℕ, ◌+◌, ◌-◌, ◌≤◌, ◌<◌}
use native.Mathlib.Nat.{add-zero}
use native.Mathlib.Numerals.{add-one}
use native.Mathlib.Omega.{arith}
use lib.ListN.{length, get_or, take, drop, length-append, take-append-drop, get_or-append}
use lib.Seq.{slice, slice-cons, length-slice, take-length, take_at, drop_at, get_or_at, get_or-append-add, take-take, drop-cons}
use lib.Dec.{eqb}
use borrow.Author.Tests.{eqb-true, eqb-false, ne_eqb, not-true}
use Rattle.tonnage.specs.Text.{minus, tonnes_at, point, follow, magnitude, laid, form, signed, figure}
use Rattle.lists.specs.Members.{all}
use Rattle.tonnage.specs.Grammar.{digit}
use Rattle.tonnage.proofs.Laying.{and_both, Laid, laid_facts, facts_laid}
use Rattle.tonnage.proofs.Answers.{sign_text}
use Rattle.tonnage.proofs.Decimal.{digit_in, passed-each, each-passed}

-- ---- the parts of a spelt text

abbrev pub spell : Bool → List ℕ → List ℕ → List ℕ
spell m whole part = sign_text m ++ (whole ++ (44 ∷ part))

spell_minus : (m : Bool) (whole part : List ℕ) → 0 < length whole → 48 ≤ get_or whole 0 0 → minus (spell m whole part) ≡ m
spell_minus true whole part h k = refl
spell_minus false whole part h k =
    ne_eqb (get_or (whole ++ (44 ∷ part)) 0 0) 45 (λ e. omega (arith, get_or-append whole (44 ∷ part) 0 0 h))

module _ (m : Bool) (whole part : List ℕ) (some : 0 < length whole) (first : 48 ≤ get_or whole 0 0) (three : length part ≡ 3) where
  spell_start : tonnes_at (spell m whole part) ≡ length (sign_text m)
  spell_start = rw (spell_minus m whole part some first) (go m)
    where
      go : (b : Bool) → cond b 1 0 ≡ length (sign_text b)
      go true = refl
      go false = refl

  spell_length : length (spell m whole part) ≡ length (sign_text m) + length whole + 4
  spell_length = simp length-append (omega arith)

  spell_point : point (spell m whole part) ≡ length (sign_text m) + length whole
  spell_point = omega (arith, spell_length)

  spell_head : length (sign_text m ++ whole) ≡ point (spell m whole part)
  spell_head = length-append (sign_text m) whole ∙ sym spell_point

  spell_whole : slice (tonnes_at (spell m whole part)) (point (spell m whole part)) (spell m whole part) ≡ whole
  spell_whole =
      ap (λ (t : List ℕ). drop (tonnes_at (spell m whole part)) (take (point (spell m whole part)) t)) (sym (append_assoc (sign_text m) whole (44 ∷ part)))
      ∙ ap (drop (tonnes_at (spell m whole part))) (take_at (sign_text m ++ whole) (44 ∷ part) (point (spell m whole part)) spell_head)
      ∙ drop_at (sign_text m) whole (tonnes_at (spell m whole part)) (sym spell_start)

  spell_part : slice (point (spell m whole part) + 1) (length (spell m whole part)) (spell m whole part) ≡ part
  spell_part =
      let front : List ℕ = sign_text m ++ (whole ++ (44 ∷ [])) in
      let same : spell m whole part ≡ front ++ part = simp append_assoc in
      let n : length front ≡ point (spell m whole part) + 1 = simp length-append (omega (arith, spell_point)) in
      ap (drop (point (spell m whole part) + 1)) (take-length (spell m whole part) ∙ same)
      ∙ drop_at front part (point (spell m whole part) + 1) n

  spell_comma : get_or (spell m whole part) (point (spell m whole part)) 0 ≡ 44
  spell_comma =
      ap (λ (t : List ℕ). get_or t (point (spell m whole part)) 0) (sym (append_assoc (sign_text m) whole (44 ∷ part)))
      ∙ get_or_at (sign_text m ++ whole) 44 part 0 (point (spell m whole part)) spell_head

  spell_first : get_or (spell m whole part) (tonnes_at (spell m whole part)) 0 ≡ get_or whole 0 0
  spell_first =
      ap (λ (i : ℕ). get_or (spell m whole part) i 0) (spell_start ∙ sym (add-zero (length (sign_text m))))
      ∙ get_or-append-add (sign_text m) (whole ++ (44 ∷ part)) 0 0
      ∙ get_or-append whole (44 ∷ part) 0 0 some

  spell_size : magnitude (spell m whole part) ≡ follow (follow 0 whole) part
  unfolding magnitude
  spell_size = ap₂ (λ (a b : List ℕ). follow (follow 0 a) b) spell_whole spell_part

-- ---- the form

pub record Spelt (m : Bool) (whole part text : List ℕ) : Type 0 where
  pub spelt : text ≡ spell m whole part
  pub some : 0 < length whole
  pub whole-digits : all digit whole ≡ true
  pub lean : get_or whole 0 0 ≡ 48 → length whole ≡ 1
  pub three : length part ≡ 3
  pub part-digits : all digit part ≡ true
  pub above_zero : m ≡ true → 0 < follow (follow 0 whole) part

first_digit_of : (whole : List ℕ) → 0 < length whole → all digit whole ≡ true → 48 ≤ get_or whole 0 0
first_digit_of [] h d = absurd (omega arith)
first_digit_of (c ∷ cs) h d = (digit_in c (and_both (digit c) (all digit cs) d).0).0

spell_laid : (m : Bool) (whole part : List ℕ) → 0 < length whole → all digit whole ≡ true → (get_or whole 0 0 ≡ 48 → length whole ≡ 1)
    → length part ≡ 3 → all digit part ≡ true → Laid (spell m whole part)
spell_laid m whole part some wd lean three pd =
    let text : List ℕ = spell m whole part in
    let first = first_digit_of whole some wd in
    let a = spell_start m whole part some first three in
    let b = spell_point m whole part some first three in
    let c = spell_length m whole part some first three in
    record {
      long = omega (arith, a, b);
      whole = each-passed (length whole) (tonnes_at text) (point text) text (omega (arith, a, b)) (omega (arith, b, c)) (rw (spell_whole m whole part some first three) wd);
      lean = λ e. omega (arith, a, b, lean (sym (spell_first m whole part some first three) ∙ e));
      comma = spell_comma m whole part some first three;
      part = each-passed 3 (point text + 1) (length text) text (omega (arith, b, c)) (omega arith) (rw (spell_part m whole part some first three) pd);
    }

pub spelt-form : {m : Bool} {whole part text : List ℕ} → Spelt m whole part text → form text ≡ true
unfolding form
spelt-form {m} {whole} {part} s =
    let first = first_digit_of whole s.some s.whole-digits in
    rw (s.spelt, facts_laid _ (spell_laid m whole part s.some s.whole-digits s.lean s.three s.part-digits), spell_minus m whole part s.some first, spell_size m whole part s.some first s.three)
    (go m s.above_zero)
  where
    go : (b : Bool) → (b ≡ true → 0 < follow (follow 0 whole) part) → not (b && eqb (follow (follow 0 whole) part) 0) ≡ true
    go true h = rw (ne_eqb (follow (follow 0 whole) part) 0 (omega (arith, h refl)))
    go false h = refl

pub spelt-figure : {m : Bool} {whole part text : List ℕ} → Spelt m whole part text → figure text ≡ signed m (follow (follow 0 whole) part)
unfolding figure
spelt-figure {m} {whole} {part} s =
    let first = first_digit_of whole s.some s.whole-digits in
    rw (s.spelt, spell_minus m whole part s.some first, spell_size m whole part s.some first s.three)

-- the sign of a text, spelt
sign_front : (text : List ℕ) → take (tonnes_at text) text ≡ sign_text (minus text)
sign_front [] = refl
sign_front (c ∷ cs) = go (eqb c 45) refl
  where
    go : (b : Bool) → eqb c 45 ≡ b → take (cond b 1 0) (c ∷ cs) ≡ sign_text b
    go true e = ap (λ (x : ℕ). x ∷ []) (eqb-true c 45 e)
    go false e = refl

split_text : (text : List ℕ) → tonnes_at text < point text → get_or text (point text) 0 ≡ 44
    → text ≡ spell (minus text) (slice (tonnes_at text) (point text) text) (slice (point text + 1) (length text) text)
split_text text long comma =
    let s : ℕ = tonnes_at text in
    let p : ℕ = point text in
    let whole : List ℕ = slice s p text in
    let part : List ℕ = slice (p + 1) (length text) text in
    let front : take p text ≡ sign_text (minus text) ++ whole = sym (take-append-drop s (take p text)) ∙ ap (λ (t : List ℕ). t ++ whole) (take-take s p text (omega arith) ∙ sign_front text) in
    let back : drop p text ≡ 44 ∷ part = drop-cons text p 0 (omega arith) ∙ rw (comma, take-length text, add-one) in
    sym (take-append-drop p text) ∙ ap₂ (λ (a b : List ℕ). a ++ b) front back ∙ append_assoc (sign_text (minus text)) whole (44 ∷ part)

no_minus_zero : (m : Bool) (n : ℕ) → not (m && eqb n 0) ≡ true → m ≡ true → 0 < n
no_minus_zero true n e h = omega (arith, eqb-false n 0 (not-true (eqb n 0) e))
no_minus_zero false n e h = absurd (true≢false (sym h))

pub form-spelt : (text : List ℕ) → form text ≡ true
    → Spelt (minus text) (slice (tonnes_at text) (point text) text) (slice (point text + 1) (length text) text) text
unfolding form magnitude
form-spelt text e =
    let b = and_both (laid text) (not (minus text && eqb (magnitude text) 0)) e in
    let l = laid_facts text b.0 in
    let long = l.long in
    let wn = length-slice (tonnes_at text) (point text) text (omega arith) in
    let pn = length-slice (point text + 1) (length text) text (omega arith) in
    let first = ap (λ (t : List ℕ). get_or t 0 0) (slice-cons (tonnes_at text) (point text) text 0 long (omega arith)) in
    record {
      spelt = split_text text long l.comma;
      some = omega arith;
      whole-digits = passed-each (point text - tonnes_at text) (tonnes_at text) (point text) text (omega arith) (omega arith) l.whole;
      lean = λ h. omega (arith, l.lean (sym first ∙ h));
      three = omega arith;
      part-digits = passed-each 3 (point text + 1) (length text) text (omega arith) (omega arith) l.part;
      above_zero = no_minus_zero (minus text) (magnitude text) b.1;
    }
