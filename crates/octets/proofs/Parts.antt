-- A list of bytes as parts of one another: fields, entries and zeros written back are the parts that they were read from. Assumes nothing.
use mathlib.Core.Path.{◌≡◌, refl, sym, ap, ◌∙◌}
use mathlib.Core.Bool.{Bool, true, false, true≢false}
use mathlib.Core.List.{List, ◌∷◌, ◌++◌}
use Prim.Native.Nat.{ℕ, zero, suc, ◌+◌, ◌-◌, ◌*◌, ◌/◌, ◌%◌, ◌^◌, ◌≤◌, ◌<◌}
use native.Mathlib.Nat.{add-suc, suc-add, mul-zero, mul-suc, pow-succ'}
use native.Mathlib.Omega.{arith}
use lib.ListN.{length, get_or, take, drop, replicate}
use lib.Seq.{drop-cons, drop-drop, take-add}
use lib.Dec.{eqb, ltb, lit<}
use borrow.Author.Tests.{lt-ltb, eqb-true, not-false}
use Rattle.lists.specs.Search.{seek, first_in, some_in}
use Rattle.lists.specs.Tables.{flat}
use Rattle.octets.specs.Bytes.{field, le, set?, Small}

-- n elements from `a` on
abbrev pub part : List ℕ → ℕ → ℕ → List ℕ
part p a n = take n (drop a p)

pub part-suc : (p : List ℕ) (a n : ℕ) → a < length p → part p a (suc n) ≡ get_or p a 0 ∷ part p (suc a) n
part-suc p a n h = ap (take (suc n)) (drop-cons p a 0 h)

join : (p : List ℕ) (a m n : ℕ) → part p a m ++ part p (a + m) n ≡ part p a (m + n)
join p a m n = sym (take-add m n (drop a p) ∙ ap (λ (l : List ℕ). part p a m ++ take n l) (drop-drop m a p))

-- a field of n bytes is below 256 ^ n
pub field_lt : (p : List ℕ) → Small p → (a n : ℕ) → field p a n < 256 ^ n
unfolding field
field_lt p small a zero = lit< tt
field_lt p small a (suc n) = rw pow-succ' (omega (arith, small a, field_lt p small (suc a) n))

-- a field written back is the part that it was read from
pub le-field : (p : List ℕ) → Small p → (a n : ℕ) → a + n ≤ length p → le n (field p a n) ≡ part p a n
unfolding le field
le-field p small a zero h = refl
le-field p small a (suc n) h =
    let b = get_or p a 0 in
    let f = field p (suc a) n in
    let low : (b + 256 * f) % 256 ≡ b = omega (arith, small a) in
    let high : (b + 256 * f) / 256 ≡ f = omega (arith, small a) in
    rw (low, high, le-field p small (suc a) n (omega arith)) (sym (part-suc p a n (omega arith)))

-- so is an entry
pub le-entry : (p : List ℕ) → Small p → (a n : ℕ) → a + (4 + n) ≤ length p
    → le 2 (field p a 2) ++ le 2 (field p (a + 2) 2) ++ le n (field p (a + 4) n) ≡ part p a (4 + n)
le-entry p small a n h =
    rw (le-field p small a 2 (omega arith), le-field p small (a + 2) 2 (omega arith), le-field p small (a + 4) n (omega arith), join p a 2 2)
    (join p a 4 n)

-- and so are entries of one size after one another
pub flat_parts : (p : List ℕ) (a k : ℕ) (f : ℕ → List ℕ) (n : ℕ) → ((i : ℕ) → i < n → f i ≡ part p (a + k * i) k) → flat n f ≡ part p a (k * n)
unfolding flat
flat_parts p a k f zero h = rw mul-zero
flat_parts p a k f (suc n) h =
    rw (mul-suc, flat_parts p a k f n (λ i l. h i (omega arith)), h n (omega arith)) (join p a (k * n) k)

-- zeros
zeros : (p : List ℕ) (a k : ℕ) → a + k ≤ length p → ltb (seek (set? p) a k) (a + k) ≡ false → replicate k 0 ≡ part p a k
unfolding seek
zeros p a zero h e = refl
zeros p a (suc k) h e = go (zeros p (suc a) k (omega arith)) (set? p a) refl
  where
    go : (ltb (seek (set? p) (suc a) k) (suc a + k) ≡ false → replicate k 0 ≡ part p (suc a) k) → (t : Bool) → set? p a ≡ t → replicate (suc k) 0 ≡ part p a (suc k)
    go ih true q = absurd (true≢false (sym (lt-ltb a (a + suc k) (omega arith)) ∙ rw q at e))
    go ih false q =
        let e' : ltb (seek (set? p) (suc a) k) (suc a + k) ≡ false = rw (q, add-suc, ← suc-add) at e in
        let z : get_or p a 0 ≡ 0 = eqb-true (get_or p a 0) 0 (not-false (eqb (get_or p a 0) 0) q) in
        rw (part-suc p a k (omega arith), z) (ap (λ (l : List ℕ). 0 ∷ l) (ih e'))

pub zeros_in : (p : List ℕ) (a to : ℕ) → a ≤ to → to ≤ length p → some_in (set? p) a to ≡ false → replicate (to - a) 0 ≡ part p a (to - a)
unfolding first_in
zeros_in p a to h k e = let q : a + (to - a) ≡ to = omega arith in zeros p a (to - a) (omega arith) (rw q e)
