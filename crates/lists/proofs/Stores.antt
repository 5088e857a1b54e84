-- Laws of runs of stores in a list. Assumes nothing.
use mathlib.Core.Path.{◌≡◌, refl, ap, ap₂, ◌∙◌}
use mathlib.Core.List.{List, [], ◌∷◌, ◌++◌, append_assoc, append-nil}
use Prim.Native.Nat.{ℕ, suc, ◌+◌, ◌≤◌, ◌<◌}
use mathlib.Core.Logic.{⊎_elim}
use native.Mathlib.Nat.{add-zero, add-suc, suc-add, eq-or-lt_of_le}
use native.Mathlib.Numerals.{add-one}
use native.Mathlib.Omega.{arith}
use lib.ListN.{length, get_or, set, take, drop, length-append, length-take, length-drop}
use lib.Seq.{sets, set_comm, set_at, get_or-set_same, get_or-set_other, take-suc, take-length, drop-cons, drop-length, length-take-le}

-- two runs, the second where the first ends
pub sets_append : (l : List ℕ) (i : ℕ) (a b : List ℕ) → sets l i (a ++ b) ≡ sets (sets l i a) (i + length a) b
sets_append l i [] b = rw add-zero
sets_append l i (x ∷ a) b = rw (add-suc, ← suc-add) (sets_append (set l i x) (suc i) a b)

-- a store behind a run may be made before it
pub set_after : (l : List ℕ) (i : ℕ) (vs : List ℕ) (j a : ℕ) → i + length vs ≤ j → set (sets l i vs) j a ≡ sets (set l j a) i vs
set_after l i [] j a h = refl
set_after l i (v ∷ vs) j a h = rw (set_after (set l i v) (suc i) vs j a (omega arith), set_comm l i j v a (omega arith))

-- the front of a list, told by index, with one store more
pub front_more : (f : ℕ → ℕ) (l : List ℕ) (i v : ℕ) → i < length l → v ≡ f i → ((j : ℕ) → j < i → get_or l j 0 ≡ f j)
    → (j : ℕ) → j < i + 1 → get_or (set l i v) j 0 ≡ f j
front_more f l i v h is front j less =
    ⊎_elim
    (λ e. let at : j ≡ i = omega arith in rw (at, get_or-set_same l i v 0 h) is)
    (λ w. get_or-set_other l i j v 0 (λ e. absurd (omega arith)) ∙ front j (omega arith))
    (eq-or-lt_of_le less)

-- ---- a list copied into another, element by element

pub copies : (i : ℕ) (xs old : List ℕ) → i < length xs → i < length old → set (take i xs ++ drop i old) i (get_or xs i 0) ≡ take (i + 1) xs ++ drop (i + 1) old
copies i xs old h l =
    ap (λ r. set (take i xs ++ r) i (get_or xs i 0)) (drop-cons old i 0 l)
    ∙ set_at (take i xs) (get_or old i 0) (drop (suc i) old) (get_or xs i 0) i (length-take-le i xs (omega arith))
    ∙ rw (add-one, take-suc xs i 0 h, append_assoc)

pub copies_long : (i : ℕ) (xs old : List ℕ) → length xs ≡ length old → length (take i xs ++ drop i old) ≡ length old
copies_long i xs old h = simp (length-append, length-take, length-drop) (omega arith)

pub copied : (i : ℕ) (xs old new : List ℕ) → i ≡ length xs → i ≡ length old → new ≡ take i xs ++ drop i old → new ≡ xs
copied i xs old new h l e =
    let front : take i xs ≡ xs = ap (λ n. take n xs) h ∙ take-length xs in
    let none : drop i old ≡ [] = ap (λ n. drop n old) l ∙ drop-length old in
    e ∙ ap₂ (λ a b. a ++ b) front none ∙ append-nil xs
