-- Members of a list: tests over them, those that pass a test, lists without repetition. Assumes nothing.
use Rattle.std.specs.Prelude.{Bool, true, false, not, ◌&&◌, ◌||◌, cond, ℕ, eqb}
use mathlib.Core.List.{List, [], ◌∷◌, Memᴰ}

module _ {A : Type 0} where
  infixl 50 ◌∈◌
  -- x is one of xs
  abbrev pub ◌∈◌ : A → List A → Type 0
  x ∈ xs = Memᴰ x xs

  -- some one of xs passes p
  abbrev pub any : (A → Bool) → List A → Bool
  any p [] = false
  any p (x ∷ xs) = p x || any p xs

  -- each of xs passes p
  abbrev pub all : (A → Bool) → List A → Bool
  all p [] = true
  all p (x ∷ xs) = p x && all p xs

  -- those of xs that pass p, as they stand
  abbrev pub those : (A → Bool) → List A → List A
  those p [] = []
  those p (x ∷ xs) = cond (p x) (x ∷ those p xs) (those p xs)

-- no number stands in the list twice
unfoldable pub distinct : List ℕ → Bool
distinct [] = true
distinct (i ∷ is) = all (λ j. not (eqb i j)) is && distinct is
