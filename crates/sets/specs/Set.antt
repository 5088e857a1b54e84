-- A number as the set of the places of its binary digits that are 1. Assumes nothing.
use Rattle.std.specs.Prelude.{◌≡◌, Bool, true, false, List, ℕ, ◌/◌, ◌%◌, ◌^◌, ◌<◌, ◌+◌, zero, suc, eqb}
use Rattle.lists.specs.Members.{those}
use Rattle.lists.specs.Tables.{upto}

-- i is in m: digit i of m is 1
unfoldable pub member : ℕ → ℕ → Bool
member m i = eqb (m / 2 ^ i % 2) 1

-- i is the lowest number in m
pub record Lowest (m i : ℕ) : Type 0 where
  pub small : i < 64
  pub isin : member m i ≡ true
  pub least : (j : ℕ) → j < i → member m j ≡ false

-- 1 where the test holds, else 0
abbrev pub one_if : Bool → ℕ
one_if true = 1
one_if false = 0

-- how many of the numbers below n are in m
unfoldable pub how_many : ℕ → ℕ → ℕ
how_many m zero = 0
how_many m (suc n) = how_many m n + one_if (member m n)

-- the numbers below n that are in m, rising
abbrev pub members : ℕ → ℕ → List ℕ
members m n = those (member m) (upto n)
