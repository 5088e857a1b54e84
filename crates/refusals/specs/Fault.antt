-- Tables of refusals: rows in turn, and the first whose case is there. Assumes nothing.
use Rattle.std.specs.Prelude.{ℕ, zero, suc, Bool, true, false, cond, List, [], ◌∷◌, ◌++◌, ◌≡◌, Result, Ok, Err}
use Rattle.lists.specs.Search.{first_in, some_in}
use Rattle.refusals.specs.declared.Refusal.{Refusal}
use Rattle.refusals.specs.Outcome.{Outcome, gives, refuses, number_of}

-- no fault, or a refusal's number and place
pub data Fault : Type 0 where
  clear : Fault
  fault : (number place : ℕ) → Fault

-- whether there is none
abbrev pub is_clear : Fault → Bool
is_clear clear = true
is_clear (fault n p) = false

-- ---- tables

-- a row of a table: a number and a place, and whether the row's case is there
pub record Row : Type 0 where
  pub number : ℕ
  pub place : ℕ
  pub case : Bool

abbrev pub row : ℕ → ℕ → Bool → Row
row n p c = record { number = n; place = p; case = c }

-- the first row whose case is there
unfoldable pub first : List Row → Fault
first [] = clear
first (r ∷ rs) = cond r.case (fault r.number r.place) (first rs)

-- number n at place p is given: its row's case is there, and no case before it is
pub data Given (n p : ℕ) : List Row → Type 0 where
  here : {r : Row} {rs : List Row} → r.number ≡ n → r.place ≡ p → r.case ≡ true → Given n p (r ∷ rs)
  later : {r : Row} {rs : List Row} → r.case ≡ false → Given n p rs → Given n p (r ∷ rs)

-- the rows of the k indexes from i on, one index after the other
unfoldable pub rows_from : (ℕ → List Row) → ℕ → ℕ → List Row
rows_from rows i zero = []
rows_from rows i (suc k) = rows i ++ rows_from rows (suc i) k

-- the rows of the indexes below m
abbrev pub in_turn : ℕ → (ℕ → List Row) → List Row
in_turn m rows = rows_from rows 0 m

-- one row for each index below m, with the index as its place
abbrev pub each_row : ℕ → ℕ → (ℕ → Bool) → List Row
each_row n m test = in_turn m (λ i. row n i (test i) ∷ [])

-- one row for the lowest index from `from` up to, not including, `to` at which a test holds, its place told from that index
abbrev pub lowest_row : ℕ → (ℕ → ℕ) → (ℕ → Bool) → ℕ → ℕ → Row
lowest_row n place test from to = row n (place (first_in test from to)) (some_in test from to)

-- the rows with other places
unfoldable pub moved : (ℕ → ℕ) → List Row → List Row
moved f [] = []
moved f (r ∷ rs) = row r.number (f r.place) r.case ∷ moved f rs

-- ---- answers

-- what is given where there is no fault
abbrev pub judged : {A : Type 0} → Fault → A → Outcome A
judged clear a = gives a
judged (fault n p) a = refuses n p

-- what is lent, afterwards: the new where there is no fault, the old where there is one
abbrev pub after : {A : Type 0} → Fault → A → A → A
after clear new old = new
after (fault n p) new old = old

-- what tests in turn found, as a fault: nothing, or the first refusal
abbrev pub finding : Result Unit Refusal → Fault
finding (Ok u) = clear
finding (Err r) = fault (number_of r.reason) r.place
