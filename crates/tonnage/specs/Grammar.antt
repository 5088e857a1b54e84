-- Document 01's sentence on tonnage texts, word by word. The test `form` is proved to say the same. Assumes nothing.
use Rattle.std.specs.Prelude.{Bool, not, ◌&&◌, List, [], ◌∷◌, ◌++◌, ◌⊎◌, ◌≡◌, ℕ, ◌<◌, length, get_or, T, eqb, leb}
use Rattle.lists.specs.Members.{all}

abbrev pub digit : ℕ → Bool
digit c = leb 48 c && leb c 57

-- "Kilograms written as tonnes": the text is a sign, the whole tonnes, a comma and a part of a tonne
pub record Tonnage (text : List ℕ) : Type 0 where
  pub sign : List ℕ
  pub whole : List ℕ
  pub part : List ℕ
  pub spelt : text ≡ sign ++ (whole ++ (44 ∷ part))
  -- "an optional minus"
  pub optional : (sign ≡ []) ⊎ (sign ≡ 45 ∷ [])
  -- "whole tonnes"
  pub some : 0 < length whole
  pub whole-digits : T (all digit whole)
  -- "without needless leading zeros (a lone 0 is needed)"
  pub lean : get_or whole 0 0 ≡ 48 → length whole ≡ 1
  -- "exactly three digits"
  pub three : length part ≡ 3
  pub part-digits : T (all digit part)
  -- "Minus zero is no figure"
  pub not-minus-zero : sign ≡ 45 ∷ [] → T (not (all (eqb 48) (whole ++ part)))
