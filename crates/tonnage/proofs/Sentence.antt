-- The test `form` says what document 01's sentence on tonnage texts says. Assumes nothing.
use mathlib.Core.Path.{◌≡◌, refl, ap, ◌∙◌}
use mathlib.Core.Bool.{Bool, true, false, not, false≢true}
use mathlib.Core.Logic.{◌↔◌, ◌⊎◌, inl, inr, ⊎_elim}
use mathlib.Core.List.{List, [], ◌∷◌, ◌++◌}
use Prim.Native.Nat.{ℕ, zero, suc, ◌<◌}
use native.Mathlib.Omega.{arith}
use lib.Dec.{T, eqb}
use Rattle.tonnage.specs.Text.{form, follow}
use Rattle.lists.specs.Members.{all}
use Rattle.tonnage.specs.Grammar.{digit, Tonnage}
use Rattle.tonnage.proofs.Answers.{sign_text}
use Rattle.tonnage.proofs.Runs.{follow-append}
use Rattle.tonnage.proofs.Decimal.{all_append, zeros-follow, follow-zeros}
use Rattle.tonnage.proofs.Spelling.{Spelt, spelt-form, form-spelt}

holds : (b : Bool) → T b → b ≡ true
holds true t = refl
holds false t = absurd t

test : (b : Bool) → b ≡ true → T b
test true e = tt
test false e = absurd (false≢true e)

-- digits write more than 0 exactly where they are not all zeros
above : (whole part : List ℕ) → all digit whole ≡ true → all digit part ≡ true → T (not (all (eqb 48) (whole ++ part)))
    → 0 < follow (follow 0 whole) part
above whole part w p n = go (follow (follow 0 whole) part) refl
  where
    go : (k : ℕ) → follow (follow 0 whole) part ≡ k → 0 < k
    go zero e =
        let d : all digit (whole ++ part) ≡ true = rw (all_append digit whole part, w, p) in
        absurd (rw (follow-zeros 0 (whole ++ part) d (follow-append 0 whole part ∙ e)) at n)
    go (suc k) e = omega arith

not_zeros : (whole part : List ℕ) → 0 < follow (follow 0 whole) part → T (not (all (eqb 48) (whole ++ part)))
not_zeros whole part h = go (all (eqb 48) (whole ++ part)) refl
  where
    go : (b : Bool) → all (eqb 48) (whole ++ part) ≡ b → T (not b)
    go true e = absurd (omega (arith, zeros-follow (whole ++ part) e, follow-append 0 whole part))
    go false e = tt

-- ---- from the sentence to the test

worded : (m : Bool) (text : List ℕ) (t : Tonnage text) → t.sign ≡ sign_text m → Spelt m t.whole t.part text
worded m text t e =
    let w = holds (all digit t.whole) t.whole-digits in
    let p = holds (all digit t.part) t.part-digits in
    record {
      spelt = t.spelt ∙ ap (λ (s : List ℕ). s ++ (t.whole ++ (44 ∷ t.part))) e;
      some = t.some;
      whole-digits = w;
      lean = t.lean;
      three = t.three;
      part-digits = p;
      above_zero = λ h. above t.whole t.part w p (t.not-minus-zero (rw h at e));
    }

-- ---- from the test to the sentence

optional : (m : Bool) → (sign_text m ≡ []) ⊎ (sign_text m ≡ 45 ∷ [])
optional true = inr refl
optional false = inl refl

minus-sign : (m : Bool) → sign_text m ≡ 45 ∷ [] → m ≡ true
minus-sign true e = refl
minus-sign false e = let clash : ◌≡◌ {A = ℕ} 0 1 = cc in absurd (omega arith)

in_words : {m : Bool} {whole part text : List ℕ} → Spelt m whole part text → Tonnage text
in_words {m} {whole} {part} s =
    record {
      sign = sign_text m;
      whole = whole;
      part = part;
      spelt = s.spelt;
      optional = optional m;
      some = s.some;
      whole-digits = test (all digit whole) s.whole-digits;
      lean = s.lean;
      three = s.three;
      part-digits = test (all digit part) s.part-digits;
      not-minus-zero = λ e. not_zeros whole part (s.above_zero (minus-sign m e));
    }

pub grammar_form : (text : List ℕ) → Tonnage text ↔ (form text ≡ true)
grammar_form text =
    (λ t. ⊎_elim (λ e. spelt-form (worded false text t e)) (λ e. spelt-form (worded true text t e)) t.optional, λ e. in_words (form-spelt text e))
