-- Document 01, 'Tonnage text': the form of a text, the figure that it writes, and the text of a figure. Assumes nothing.
use Rattle.std.specs.Prelude.{Bool, true, false, not, ◌&&◌, ◌||◌, cond, List, [], ◌∷◌, ◌++◌, ℕ, zero, suc, ◌+◌, ◌-◌, ◌*◌, ◌/◌, ◌%◌, length, get_or, eqb, ltb, ℤ, pos, negsuc, neg_ℤ, nat_abs}
use Rattle.std.proofs.Math.Seq.{slice}
use Rattle.lists.specs.Search.{some_in}

-- ---- the form

-- "an optional minus"
abbrev pub minus : List ℕ → Bool
minus text = eqb (get_or text 0 0) 45

-- where the whole tonnes begin, and where the comma stands: four characters before the end
abbrev pub tonnes_at : List ℕ → ℕ
tonnes_at text = cond (minus text) 1 0

abbrev pub point : List ℕ → ℕ
point text = length text - 4

-- the character at i is no digit, 0 to 9
abbrev pub other : List ℕ → ℕ → Bool
other text i = ltb (get_or text i 0) 48 || ltb 57 (get_or text i 0)

-- the number that a run of digits writes, after the number n
unfoldable pub follow : ℕ → List ℕ → ℕ
follow n [] = n
follow n (c ∷ cs) = follow (10 * n + (c - 48)) cs

-- the kilograms without their sign: the whole tonnes, then the three digits
unfoldable pub magnitude : List ℕ → ℕ
magnitude text = follow (follow 0 (slice (tonnes_at text) (point text) text)) (slice (point text + 1) (length text) text)

-- "whole tonnes without needless leading zeros (a lone 0 is needed), a comma, exactly three digits"
unfoldable pub laid : List ℕ → Bool
laid text =
    ltb (tonnes_at text) (point text)
    && not (some_in (other text) (tonnes_at text) (point text))
    && not (eqb (get_or text (tonnes_at text) 0) 48 && ltb (tonnes_at text + 1) (point text))
    && eqb (get_or text (point text) 0) 44
    && not (some_in (other text) (point text + 1) (length text))

-- the form: laid out so, and "Minus zero is no figure"
unfoldable pub form : List ℕ → Bool
form text = laid text && not (minus text && eqb (magnitude text) 0)

-- the first number that is no magnitude of a figure of signed 64 bits, with or without a minus
abbrev pub too_large : ℕ
too_large = 9223372036854775809

-- the figure that a text of the form writes
abbrev pub signed : Bool → ℕ → ℤ
signed true n = neg_ℤ (pos n)
signed false n = pos n

unfoldable pub figure : List ℕ → ℤ
figure text = signed (minus text) (magnitude text)

-- ---- the text of a figure

-- the lowest k decimal digits of n, the highest of them first
unfoldable pub digits : ℕ → ℕ → List ℕ
digits zero n = []
digits (suc k) n = digits k (n / 10) ++ ((48 + n % 10) ∷ [])

-- how many digits n has without needless zeros, one at least; never more than k + 1 are looked for
unfoldable pub width_in : ℕ → ℕ → ℕ
width_in zero n = 1
width_in (suc k) n = elim (ltb n 10) [ true ↦ 1 | false ↦ suc (width_in k (n / 10)) ]

unfoldable pub width : ℕ → ℕ
width n = width_in n n

-- "Kilograms written as tonnes": the sign, the whole tonnes, and the kilograms beyond them
abbrev pub below0 : ℤ → Bool
below0 (pos n) = false
below0 (negsuc n) = true

abbrev pub tonnes : ℤ → ℕ
tonnes z = nat_abs z / 1000

abbrev pub rest : ℤ → ℕ
rest z = nat_abs z % 1000

-- "an optional minus, whole tonnes without needless leading zeros .., a comma, exactly three digits"
unfoldable pub text_of : ℤ → List ℕ
text_of z = cond (below0 z) (45 ∷ []) [] ++ (digits (width (tonnes z)) (tonnes z) ++ (44 ∷ digits 3 (rest z)))
