-- Laws of tables of refusals. Assumes nothing.
use Prim.Native.Nat.{ℕ, zero, suc, ◌+◌, ◌≤◌, ◌<◌}
use native.Mathlib.Nat.{eq-or-lt_of_le, add-zero, add-suc, suc-add, zero-add}
use native.Mathlib.Omega.{arith}
use mathlib.Core.Bool.{Bool, true, false, true≢false, false≢true, cond}
use mathlib.Core.List.{List, [], ◌∷◌, ◌++◌}
use mathlib.Core.Logic.{◌↔◌, ◌⊎◌, inl, inr, ⊎_elim}
use mathlib.Core.Path.{◌≡◌, refl, sym, ap, ap₂, ◌∙◌}
use lib.Dec.{T}
use Rattle.lists.specs.Members.{all}
use Rattle.std.specs.Prelude.{Some, None}
use Rattle.lists.specs.Search.{first_in, found_in}
use Rattle.lists.proofs.Tests.{both, and_left, and_right}
use Rattle.lists.proofs.Searches.{some, none, holds, missed, before, given_some, given_none}
use Rattle.refusals.specs.Outcome.{Outcome, gives, refuses}
use Rattle.refusals.specs.Fault.{Fault, clear, fault, is_clear, Row, row, first, Given, here, later, rows_from, in_turn, each_row, lowest_row, moved, judged, after}

abbrev pub moved_fault : (ℕ → ℕ) → Fault → Fault
moved_fault f clear = clear
moved_fault f (fault n p) = fault n (f p)

-- ---- faults told apart

pub no_fault : {f : Fault} {n p : ℕ} → f ≡ clear → f ≡ fault n p → ⊥
no_fault e k = let z : ◌≡◌ {A = ℕ} 0 1 = cc in omega arith

pub one_number : {f : Fault} {m p n q : ℕ} → f ≡ fault m p → f ≡ fault n q → m ≡ n
one_number e k = cc

pub one_place : {f : Fault} {m p n q : ℕ} → f ≡ fault m p → f ≡ fault n q → p ≡ q
one_place e k = cc

-- whether there is a fault, as a test says it
pub not-clear : (f : Fault) → (f ≡ clear → ⊥) → false ≡ is_clear f
not-clear clear h = absurd (h refl)
not-clear (fault n p) h = refl

pub clear_is : (f : Fault) → true ≡ is_clear f → f ≡ clear
clear_is clear e = refl
clear_is (fault n p) e = absurd (true≢false e)

-- what is judged to be given, or refused
pub judged-gives : {A : Type 0} (f : Fault) (x a : A) → gives x ≡ judged f a → (f ≡ clear) × (x ≡ a)
judged-gives clear x a e = (refl, cc)
judged-gives (fault n p) x a e = absurd (let z : ◌≡◌ {A = ℕ} 0 1 = cc in omega arith)

pub judged-refuses : {A : Type 0} (f : Fault) (n p : ℕ) (a : A) → refuses n p ≡ judged f a → f ≡ fault n p
judged-refuses clear n p a e = absurd (let z : ◌≡◌ {A = ℕ} 0 1 = cc in omega arith)
judged-refuses (fault m q) n p a e = cc

-- what is lent stays as it was where something is refused
pub refused-after : {A B : Type 0} (f : Fault) (a : A) (new old : B) (n p : ℕ) → judged f a ≡ refuses n p → after f new old ≡ old
refused-after clear a new old n p e = absurd (let z : ◌≡◌ {A = ℕ} 0 1 = cc in omega arith)
refused-after (fault m q) a new old n p e = refl

-- ---- one row, then the others

module _ (r : Row) (rs : List Row) where
  pub row_there : r.case ≡ true → first (r ∷ rs) ≡ fault r.number r.place
  unfolding first
  row_there e = rw e

  pub row-passed : r.case ≡ false → first (r ∷ rs) ≡ first rs
  unfolding first
  row-passed e = rw e

  pub row_none : first (r ∷ rs) ≡ clear → (r.case ≡ false) × (first rs ≡ clear)
  unfolding first
  row_none e = go r.case e
    where
      go : (b : Bool) → cond b (fault r.number r.place) (first rs) ≡ clear → (b ≡ false) × (first rs ≡ clear)
      go true q = absurd (no_fault q refl)
      go false q = (refl, q)

  -- what a fault says, whichever row it is of
  pub row_cases : (P : ℕ → ℕ → Type 0) {n p : ℕ} → (r.case ≡ true → P r.number r.place) → (r.case ≡ false → first rs ≡ fault n p → P n p)
      → first (r ∷ rs) ≡ fault n p → P n p
  row_cases P {n} {p} there others e = go r.case refl
    where
      go : (b : Bool) → r.case ≡ b → P n p
      go true c = rw (sym (one_number (row_there c) e), sym (one_place (row_there c) e)) (there c)
      go false c = others c (sym (row-passed c) ∙ e)

-- no row
pub empty_clear : first [] ≡ clear
unfolding first
empty_clear = refl

pub no_rows : {n p : ℕ} → first [] ≡ fault n p → ⊥
no_rows e = no_fault empty_clear e

-- ---- some rows, then others

pub append-clear : (xs ys : List Row) → first xs ≡ clear → first (xs ++ ys) ≡ first ys
append-clear [] ys e = refl
append-clear (r ∷ rs) ys e =
    let n = row_none r rs e in
    row-passed r (rs ++ ys) n.0 ∙ append-clear rs ys n.1

pub append-fault : (xs ys : List Row) {n p : ℕ} → first xs ≡ fault n p → first (xs ++ ys) ≡ fault n p
unfolding first
append-fault [] ys e = absurd (no_fault refl e)
append-fault (r ∷ rs) ys {n} {p} e = go r.case e (λ q. append-fault rs ys q)
  where
    go : (b : Bool) → cond b (fault r.number r.place) (first rs) ≡ fault n p → (first rs ≡ fault n p → first (rs ++ ys) ≡ fault n p)
        → cond b (fault r.number r.place) (first (rs ++ ys)) ≡ fault n p
    go true q ih = q
    go false q ih = ih q

pub append_none : (xs ys : List Row) → first (xs ++ ys) ≡ clear → (first xs ≡ clear) × (first ys ≡ clear)
append_none xs ys e = go (first xs) refl
  where
    go : (f : Fault) → first xs ≡ f → (first xs ≡ clear) × (first ys ≡ clear)
    go clear h = (h, sym (append-clear xs ys h) ∙ e)
    go (fault n p) h = absurd (no_fault e (append-fault xs ys h))

pub append_either : (xs ys : List Row) {n p : ℕ} → first (xs ++ ys) ≡ fault n p
    → (first xs ≡ fault n p) ⊎ ((first xs ≡ clear) × (first ys ≡ fault n p))
append_either xs ys {n} {p} e = go (first xs) refl
  where
    go : (f : Fault) → first xs ≡ f → (first xs ≡ fault n p) ⊎ ((first xs ≡ clear) × (first ys ≡ fault n p))
    go clear h = inr (h, sym (append-clear xs ys h) ∙ e)
    go (fault m q) h = inl (sym (append-fault xs ys h ∙ sym h) ∙ e)

-- rows of which none is there, behind others
pub append-rest : (xs ys : List Row) → first ys ≡ clear → first (xs ++ ys) ≡ first xs
append-rest xs ys e = go (first xs) refl
  where
    go : (f : Fault) → first xs ≡ f → first (xs ++ ys) ≡ first xs
    go clear h = append-clear xs ys h ∙ e ∙ sym h
    go (fault n p) h = append-fault xs ys h ∙ sym h

-- ---- the rows of indexes, one index after the other

module _ (rows : ℕ → List Row) where
  from_clear : (i k : ℕ) → ((l : ℕ) → l < k → first (rows (i + l)) ≡ clear) → first (rows_from rows i k) ≡ clear
  unfolding rows_from first
  from_clear i zero h = refl
  from_clear i (suc k) h =
      append-clear (rows i) (rows_from rows (suc i) k) (rw add-zero at (h 0 (omega arith)))
      ∙ from_clear (suc i) k (λ l o. rw (suc-add, ← add-suc) (h (suc l) (omega arith)))

  from_none : (i k : ℕ) → first (rows_from rows i k) ≡ clear → (l : ℕ) → l < k → first (rows (i + l)) ≡ clear
  unfolding rows_from
  from_none i zero e l o = absurd (omega arith)
  from_none i (suc k) e zero o = rw add-zero (append_none (rows i) (rows_from rows (suc i) k) e).0
  from_none i (suc k) e (suc l) o = rw (add-suc, ← suc-add) (from_none (suc i) k (append_none (rows i) (rows_from rows (suc i) k) e).1 l (omega arith))

  from_at : (i k j : ℕ) {n p : ℕ} → j < k → ((l : ℕ) → l < j → first (rows (i + l)) ≡ clear) → first (rows (i + j)) ≡ fault n p → first (rows_from rows i k) ≡ fault n p
  unfolding rows_from
  from_at i zero j o h e = absurd (omega arith)
  from_at i (suc k) zero o h e = append-fault (rows i) (rows_from rows (suc i) k) (rw add-zero at e)
  from_at i (suc k) (suc j) o h e =
      append-clear (rows i) (rows_from rows (suc i) k) (rw add-zero at (h 0 (omega arith)))
      ∙ from_at (suc i) k j (omega arith) (λ l q. rw (suc-add, ← add-suc) (h (suc l) (omega arith))) (rw (suc-add, ← add-suc) e)

  -- a fault is of an index before which there is none
  pub record Which (i k n p : ℕ) : Type 0 where
    pub index : ℕ
    pub within : index < k
    pub earlier : (l : ℕ) → l < index → first (rows (i + l)) ≡ clear
    pub given : first (rows (i + index)) ≡ fault n p

  one_more : (i j : ℕ) → first (rows i) ≡ clear → ((l : ℕ) → l < j → first (rows (suc i + l)) ≡ clear)
      → (l : ℕ) → l < suc j → first (rows (i + l)) ≡ clear
  one_more i j h f zero o = rw add-zero h
  one_more i j h f (suc l) o = rw (add-suc, ← suc-add) (f l (omega arith))

  from_which : (i k : ℕ) {n p : ℕ} → first (rows_from rows i k) ≡ fault n p → Which i k n p
  unfolding rows_from
  from_which i zero e = absurd (no_rows e)
  from_which i (suc k) {n} {p} e =
      ⊎_elim {C = Which i (suc k) n p}
      (λ h. record { index = 0; within = omega arith; earlier = λ l o. absurd (omega arith); given = rw add-zero h })
      (λ h.
      let w = from_which (suc i) k h.1 in
      record {
        index = suc w.index;
        within = omega (arith, w.within);
        earlier = one_more i w.index h.0 w.earlier;
        given = rw (add-suc, ← suc-add) w.given;
      })
      (append_either (rows i) (rows_from rows (suc i) k) e)

  -- none is there where none of any index is
  pub each-clear : (m : ℕ) → ((i : ℕ) → i < m → first (rows i) ≡ clear) → first (in_turn m rows) ≡ clear
  each-clear m h = from_clear 0 m (λ l o. rw zero-add (h l o))

  pub each_none : (m : ℕ) → first (in_turn m rows) ≡ clear → (i : ℕ) → i < m → first (rows i) ≡ clear
  each_none m e i o = rw zero-add at (from_none 0 m e i o)

  -- the first is that of the lowest index that has one
  pub each_at : (m j : ℕ) {n p : ℕ} → j < m → ((i : ℕ) → i < j → first (rows i) ≡ clear) → first (rows j) ≡ fault n p → first (in_turn m rows) ≡ fault n p
  each_at m j o h e = from_at 0 m j o (λ l q. rw zero-add (h l q)) (rw zero-add e)

  pub each_which : (m : ℕ) {n p : ℕ} → first (in_turn m rows) ≡ fault n p → Which 0 m n p
  each_which m e = from_which 0 m e

-- what a loop over the indexes keeps: none before i has a fault
pub record Passed (rows : ℕ → List Row) (i : ℕ) : Type 0 where
  pub none : (j : ℕ) → j < i → first (rows j) ≡ clear

pub passed_begins : (rows : ℕ → List Row) → Passed rows 0
passed_begins rows = record { none = λ j h. absurd (omega arith) }

pub passed_on : {rows : ℕ → List Row} {i : ℕ} → Passed rows i → first (rows i) ≡ clear → Passed rows (i + 1)
passed_on {rows} {i} u e = record {
  none = λ j h. let l : j ≤ i = omega arith in ⊎_elim {C = first (rows j) ≡ clear} (λ q. rw q e) (u.none j) (eq-or-lt_of_le l);
}

-- one row for each index
pub one-clear : (n p : ℕ) (b : Bool) → b ≡ false → first (row n p b ∷ []) ≡ clear
unfolding first
one-clear n p b e = rw e

module _ (n m : ℕ) (test : ℕ → Bool) where
  pub test_clear : ((i : ℕ) → i < m → test i ≡ false) → first (each_row n m test) ≡ clear
  test_clear h = each-clear (λ i. row n i (test i) ∷ []) m (λ i o. one-clear n i (test i) (h i o))

  pub test_none : first (each_row n m test) ≡ clear → (i : ℕ) → i < m → test i ≡ false
  test_none e i o = (row_none (row n i (test i)) [] (each_none (λ j. row n j (test j) ∷ []) m e i o)).0

  -- as a search finds it
  module _ (x : ℕ) (found : x ≡ first_in test 0 m) where
    pub test_found : x < m → first (each_row n m test) ≡ fault n x
    test_found h =
        each_at (λ i. row n i (test i) ∷ []) m x h
        (λ i o. one-clear n i (test i) (before test m x found i o))
        (row_there (row n x (test x)) [] (holds test m x found h))

    pub test_missed : m ≤ x → first (each_row n m test) ≡ clear
    test_missed h = test_clear (missed test m (none test 0 m x found h))

-- one row for each index, by what a search gave
module _ (n m : ℕ) (test : ℕ → Bool) where
  pub row_found : (i : ℕ) → Some i ≡ found_in test 0 m → first (each_row n m test) ≡ fault n i
  row_found i e = let g = given_some test 0 m i e in test_found n m test i g.0 g.1

  pub row_missed : None ≡ found_in test 0 m → first (each_row n m test) ≡ clear
  row_missed e = test_clear n m test (missed test m (given_none test 0 m e))

-- one row for the lowest index, as a search finds it
module _ (n : ℕ) (place : ℕ → ℕ) (test : ℕ → Bool) (from to : ℕ) (rs : List Row) (x : ℕ) (found : x ≡ first_in test from to) where
  pub lowest_found : x < to → first (lowest_row n place test from to ∷ rs) ≡ fault n (place x)
  lowest_found h = row_there (lowest_row n place test from to) rs (some test from to x found h) ∙ ap (λ i. fault n (place i)) (sym found)

  pub lowest_missed : to ≤ x → first (lowest_row n place test from to ∷ rs) ≡ first rs
  lowest_missed h = row-passed (lowest_row n place test from to) rs (none test from to x found h)

-- ---- rows with other places

pub first-moved : (f : ℕ → ℕ) (rs : List Row) → first (moved f rs) ≡ moved_fault f (first rs)
unfolding first moved
first-moved f [] = refl
first-moved f (r ∷ rs) = go r.case (first-moved f rs)
  where
    go : (b : Bool) → first (moved f rs) ≡ moved_fault f (first rs)
        → cond b (fault r.number (f r.place)) (first (moved f rs)) ≡ moved_fault f (cond b (fault r.number r.place) (first rs))
    go true ih = refl
    go false ih = ih

pub moved_none : (f : ℕ → ℕ) (rs : List Row) → first (moved f rs) ≡ clear → first rs ≡ clear
moved_none f rs e = go (first rs) (sym (first-moved f rs) ∙ e)
  where
    go : (g : Fault) → moved_fault f g ≡ clear → g ≡ clear
    go clear q = refl
    go (fault n p) q = absurd (no_fault q refl)

pub moved-some : (f : ℕ → ℕ) (rs : List Row) {n q : ℕ} → first (moved f rs) ≡ fault n q → (p : ℕ) × (first rs ≡ fault n p) × (q ≡ f p)
moved-some f rs {n} {q} e = go (first rs) (sym (first-moved f rs) ∙ e)
  where
    go : (g : Fault) → moved_fault f g ≡ fault n q → (p : ℕ) × (g ≡ fault n p) × (q ≡ f p)
    go clear h = absurd (no_fault refl h)
    go (fault m p) h = (p, ap (λ k. fault k p) (one_number refl h), sym (one_place refl h))

-- ---- a number is given, with its place, exactly when its row's case is there and no case before it is

pub first_given : (n p : ℕ) (rs : List Row) → (first rs ≡ fault n p) ↔ Given n p rs
unfolding first
first_given n p [] = (λ e. absurd (no_fault refl e), empty)
  where
    empty : Given n p [] → first [] ≡ fault n p
    empty g = elim g [ ]
first_given n p (r ∷ rs) = go r.case refl (first_given n p rs)
  where
    go : (b : Bool) → r.case ≡ b → (first rs ≡ fault n p) ↔ Given n p rs → (first (r ∷ rs) ≡ fault n p) ↔ Given n p (r ∷ rs)
    go true h ih = (
      λ e. here (one_number (row_there r rs h) e) (one_place (row_there r rs h) e) h,
      λ g. row_there r rs h ∙ back g,
    )
      where
        back : Given n p (r ∷ rs) → fault r.number r.place ≡ fault n p
        back (here a b c) = ap₂ fault a b
        back (later c g) = absurd (true≢false (sym h ∙ c))
    go false h ih = (
      λ e. later h (ih.0 (sym (row-passed r rs h) ∙ e)),
      λ g. row-passed r rs h ∙ ih.1 (back g),
    )
      where
        back : Given n p (r ∷ rs) → Given n p rs
        back (here a b c) = absurd (false≢true (sym h ∙ c))
        back (later c g) = g

-- so for a service that gives something where its table is clear, and refuses with the first row where it is not
module _ {A : Type 0} (rs : List Row) (answer : Outcome A)
    (opens : first rs ≡ clear → (x : A) × (answer ≡ gives x))
    (shuts : (a b : ℕ) → first rs ≡ fault a b → answer ≡ refuses a b) where
  pub by-table : (n p : ℕ) → (answer ≡ refuses n p) ↔ Given n p rs
  by-table n p = (λ e. (first_given n p rs).0 (go (first rs) refl e), λ g. shuts n p ((first_given n p rs).1 g))
    where
      go : (f : Fault) → first rs ≡ f → answer ≡ refuses n p → first rs ≡ fault n p
      go clear h e = absurd (let g = (opens h).1 in let z : ◌≡◌ {A = ℕ} 0 1 = cc in omega arith)
      go (fault a b) h e = let g = shuts a b h in h ∙ cc

pub judged_given : {A : Type 0} (rs : List Row) (a : A) (n p : ℕ) → (judged (first rs) a ≡ refuses n p) ↔ Given n p rs
judged_given rs a = by-table rs (judged (first rs) a) (λ h. (a, ap (λ f. judged f a) h)) (λ m q h. ap (λ f. judged f a) h)

-- ---- what a table can give

-- each row's number and place pass the test
abbrev pub allow : (ℕ → ℕ → Bool) → List Row → Bool
allow ok rs = all (λ r. ok r.number r.place) rs

module _ (ok : ℕ → ℕ → Bool) where
  pub allow_append : (xs ys : List Row) → T (allow ok xs) → T (allow ok ys) → T (allow ok (xs ++ ys))
  allow_append [] ys a b = b
  allow_append (r ∷ rs) ys a b =
      let t = ok r.number r.place in
      both t _ (and_left t _ a) (allow_append rs ys (and_right t _ a) b)

  allow_from :
      (rows : ℕ → List Row) (i k top : ℕ) → i + k ≤ top → ((j : ℕ) → j < top → T (allow ok (rows j))) →
      T (allow ok (rows_from rows i k))
  unfolding rows_from
  allow_from rows i zero top h f = tt
  allow_from rows i (suc k) top h f =
      allow_append (rows i) (rows_from rows (suc i) k) (f i (omega arith)) (allow_from rows (suc i) k top (omega arith) f)

  pub allow_turn : (m : ℕ) (rows : ℕ → List Row) → ((j : ℕ) → j < m → T (allow ok (rows j))) → T (allow ok (in_turn m rows))
  allow_turn m rows f = allow_from rows 0 m m (omega arith) f

  pub allow_each : (n m : ℕ) (test : ℕ → Bool) → ((j : ℕ) → j < m → T (ok n j)) → T (allow ok (each_row n m test))
  allow_each n m test f = allow_turn m (λ i. row n i (test i) ∷ []) (λ j h. both (ok n j) true (f j h) tt)

  pub given_allowed : {n p : ℕ} {rs : List Row} → Given n p rs → T (allow ok rs) → T (ok n p)
  given_allowed (here {r = r} {rs = qs} e q c) a = rw (e, q) at (and_left (ok r.number r.place) (allow ok qs) a)
  given_allowed (later {r = r} {rs = qs} c g) a = given_allowed g (and_right (ok r.number r.place) (allow ok qs) a)

-- rows with other places pass where the test does at those
pub allow_moved : (ok : ℕ → ℕ → Bool) (f : ℕ → ℕ) (rs : List Row) → T (allow (λ n p. ok n (f p)) rs) → T (allow ok (moved f rs))
unfolding moved
allow_moved ok f [] a = tt
allow_moved ok f (r ∷ rs) a =
    let t = ok r.number (f r.place) in
    both t _ (and_left t _ a) (allow_moved ok f rs (and_right t _ a))
