-- Laws of a set's members as a list: who stands in it, how long it is, and what a set without one of its members lists. Assumes nothing.
use mathlib.Core.Path.{◌≡◌, refl, sym, ap, ap₂, ◌∙◌}
use mathlib.Core.Bool.{Bool, true, false, not, ◌&&◌, and-true, cond}
use mathlib.Core.List.Memᴰ
use mathlib.Core.List.{List, [], ◌∷◌, ◌++◌, append-nil}
use mathlib.Core.Logic.{◌↔◌, ⊎_elim}
use native.Mathlib.Nat.{eq-or-lt_of_le, le_of_suc-le-suc}
use native.Mathlib.Omega.{arith}
use borrow.Author.Tests.{eq-eqb, ne_eqb}
use Prim.Native.Nat.{ℕ, zero, suc, ◌+◌, ◌^◌, ◌<◌}
use lib.ListN.{length, length-append}
use lib.Dec.{eqb}
use Rattle.lists.specs.Members.{◌∈◌, those}
use Rattle.lists.specs.Tables.{upto, tab}
use Rattle.lists.proofs.Tests.{both, and_left, and_right, is_true, of_true}
use Rattle.lists.proofs.Membership.{those_in, those-out, those-append, those-those, those-same, upto_all, upto_below}
use Rattle.sets.specs.Set.{member, how_many, one_if, members}
use Rattle.sets.proofs.Laws.{within}

pub member-listed : (m n x : ℕ) → x < n → member m x ≡ true → x ∈ members m n
member-listed m n x h e = those_in (member m) (upto n) (upto_all n x h) (of_true (member m x) e)

pub listed-member : (m n : ℕ) {x : ℕ} → x ∈ members m n → (x < n) × (member m x ≡ true)
listed-member m n {x} k = let w = those-out (member m) (upto n) k in (upto_below n w.0, is_true (member m x) w.1)

-- a set of n places lists exactly its members
pub listed : (m n : ℕ) → m < 2 ^ n → (x : ℕ) → (member m x ≡ true) ↔ (x ∈ members m n)
listed m n h x = (λ e. member-listed m n x (within n m x h e) e, λ k. (listed-member m n k).1)

pub listed-size : (m n : ℕ) → length (members m n) ≡ how_many m n
unfolding how_many tab
listed-size m zero = refl
listed-size m (suc n) = rw (those-append (member m) (upto n) (n ∷ []), length-append) (ap₂ (λ a b. a + b) (listed-size m n) (last (member m n)))
  where
    last : (b : Bool) → length (cond b (n ∷ []) []) ≡ one_if b
    last true = refl
    last false = refl

-- one taken out of the set is taken out of the list
pub listed-without : (m r i n : ℕ) → ((j : ℕ) → member r j ≡ (member m j && not (eqb i j))) → members r n ≡ those (λ j. not (eqb i j)) (members m n)
listed-without m r i n w =
    those-same (member r) (λ j. member m j && not (eqb i j)) (upto n) (λ x k. w x)
    ∙ those-those (λ j. member m j && not (eqb i j)) (member m) (λ j. not (eqb i j)) (upto n)
    (λ x. (λ t. (and_left (member m x) _ t, and_right (member m x) _ t), λ t. both (member m x) _ t.0 t.1))

-- a set lists none where none is below n
pub listed-none : (m n : ℕ) → ((j : ℕ) → j < n → member m j ≡ false) → members m n ≡ []
unfolding tab
listed-none m zero h = refl
listed-none m (suc n) h =
    those-append (member m) (upto n) (n ∷ []) ∙ rw (listed-none m n (λ j l. h j (omega arith)), h n (omega arith))

-- and its lowest first, before what is left without it
pub listed-lowest : (m r i n : ℕ) → i < n → member m i ≡ true → ((j : ℕ) → j < i → member m j ≡ false)
    → ((j : ℕ) → member r j ≡ (member m j && not (eqb i j))) → members m n ≡ i ∷ members r n
unfolding tab
listed-lowest m r i zero h e f w = absurd (omega arith)
listed-lowest m r i (suc n) h e f w =
    those-append (member m) (upto n) (n ∷ [])
    ∙ ⊎_elim first (λ l. later l (listed-lowest m r i n l e f w)) (eq-or-lt_of_le (le_of_suc-le-suc h))
    ∙ ap (λ l. i ∷ l) (sym (those-append (member r) (upto n) (n ∷ [])))
  where
    first : i ≡ n → members m n ++ those (member m) (n ∷ []) ≡ i ∷ (members r n ++ those (member r) (n ∷ []))
    first q =
        let none : members m n ≡ [] = listed-none m n (λ j l. f j (omega arith)) in
        let gone : members r n ≡ [] = listed-none r n (λ j l. w j ∙ rw (f j (omega arith))) in
        let here : member m n ≡ true = rw q at e in
        let out : member r n ≡ false = w n ∙ rw (here, eq-eqb i n q) in
        rw (none, gone, here, out, q)

    later : i < n → members m n ≡ i ∷ members r n → members m n ++ those (member m) (n ∷ []) ≡ i ∷ (members r n ++ those (member r) (n ∷ []))
    later l ih =
        let same : member r n ≡ member m n = w n ∙ rw (ne_eqb i n (λ z. omega arith), and-true) in
        rw (ih, same)

-- ---- in rising order

abbrev Rises : List ℕ → Type 0
Rises [] = Unit {0}
Rises (x ∷ xs) = ((d : ℕ) → d ∈ xs → x < d) × Rises xs

rises-last : (xs : List ℕ) (n : ℕ) → ((d : ℕ) → d ∈ xs → d < n) → Rises xs → Rises (xs ++ (n ∷ []))
rises-last [] n h r = (λ d k. absurd (Memᴰ.not-nil k), tt)
rises-last (x ∷ xs) n h r = (
  λ d k. ⊎_elim (r.0 d) (λ i. omega (arith, h x (Memᴰ.head refl), Memᴰ.eq_of_singleton i)) (Memᴰ.append_cases xs k),
  rises-last xs n (λ d k. h d (Memᴰ.tail k)) r.1,
)

rises-members : (m n : ℕ) → Rises (members m n)
unfolding tab
rises-members m zero = tt
rises-members m (suc n) = rw (those-append (member m) (upto n) (n ∷ [])) (last (rises-members m n) (member m n))
  where
    last : Rises (members m n) → (b : Bool) → Rises (members m n ++ cond b (n ∷ []) [])
    last r true = rises-last (members m n) n (λ d k. (listed-member m n k).0) r
    last r false = rw append-nil r

behind : (xs ys : List ℕ) (p : ℕ) → Rises (xs ++ (p ∷ ys)) → (d : ℕ) → d ∈ ys → p < d
behind [] ys p r = r.0
behind (x ∷ xs) ys p r = behind xs ys p r.1

-- the members that are listed behind one are higher
pub listed-rising : (m n : ℕ) (xs ys : List ℕ) (p : ℕ) → members m n ≡ xs ++ (p ∷ ys) → (d : ℕ) → d ∈ ys → p < d
listed-rising m n xs ys p e = behind xs ys p (rw e at (rises-members m n))
