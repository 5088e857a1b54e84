-- Searches by index: where the first index stands at which a test holds. Assumes nothing.
use Rattle.std.specs.Prelude.{Bool, cond, ℕ, zero, suc, ◌-◌, ltb, Option, Some, None}

-- the first of the k indexes from i on at which the test holds, i + k where it holds at none
unfoldable pub seek : (ℕ → Bool) → ℕ → ℕ → ℕ
seek bad i zero = i
seek bad i (suc k) = cond (bad i) i (seek bad (suc i) k)

-- the first index from `from` up to, not including, `to` at which the test holds, `to` where it holds at none
unfoldable pub first_in : (ℕ → Bool) → ℕ → ℕ → ℕ
unfolding seek
first_in bad from to = seek bad from (to - from)

-- the test holds at some index from `from` up to, not including, `to`
abbrev pub some_in : (ℕ → Bool) → ℕ → ℕ → Bool
some_in bad from to = ltb (first_in bad from to) to

-- the first such index, where there is one
abbrev pub found_in : (ℕ → Bool) → ℕ → ℕ → Option ℕ
found_in bad from to = cond (some_in bad from to) (Some (first_in bad from to)) None
