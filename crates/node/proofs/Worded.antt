-- What reading a tonnage text answers, as a word. Assumes nothing.
use mathlib.Core.Path.{◌≡◌, sym, ap, ◌∙◌}
use mathlib.Core.List.{List}
use Prim.Native.Nat.{ℕ}
use lib.IntN.{ℤ}
use Rattle.refusals.specs.declared.Refusal.{Refusal}
use Rattle.refusals.specs.Outcome.{Outcome, gives, refuses, number_of, outcome}
use Rattle.std.specs.Prelude.{Result, Ok, Err}
use Rattle.tonnage.specs.Services.{read_text}
use Rattle.node.specs.Word.{upper}
use Rattle.node.specs.Lent.{TextLeft, text_left}

-- what reading leaves, by the outcome
abbrev left : ℤ → Outcome ℤ → TextLeft
left z o =
    elim o [
      | gives y ↦ record { word = 0; kilograms = y }
      | refuses n q ↦ record { word = upper n q; kilograms = z }
    ]

module _ (r : Result ℤ Refusal) (text : List ℕ) (z : ℤ) (h : outcome r ≡ read_text text) where
  pub text-read : (y : ℤ) → r ≡ Ok y → record { word = 0; kilograms = y } ≡ text_left text z
  unfolding text_left
  text-read y e = ap (λ (x : Result ℤ Refusal). left z (outcome x)) (sym e) ∙ ap (left z) h

  pub text-not : (f : Refusal) (w : ℕ) → w ≡ upper (number_of f.reason) f.place → r ≡ Err f
      → record { word = w; kilograms = z } ≡ text_left text z
  unfolding text_left
  text-not f w q e =
      ap (λ (x : ℕ). record { word = x; kilograms = z }) q
      ∙ ap (λ (x : Result ℤ Refusal). left z (outcome x)) (sym e) ∙ ap (left z) h
