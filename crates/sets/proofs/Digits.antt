-- Laws of digits: what the machine's operations do to each. Only the proofs of this crate's own functions need them. Assumes nothing.
use mathlib.Core.Path.{◌≡◌, refl, sym, ap, ◌∙◌}
use mathlib.Core.Bool.{Bool, true, false, not, ◌&&◌, ◌||◌, and_self, and-true}
use mathlib.Core.Logic.{⊎_elim}
use Prim.Native.Nat.{ℕ, zero, suc, ◌-◌, ◌/◌, ◌%◌, ◌^◌, ◌≤◌, ◌<◌, suc-le-suc}
use native.Mathlib.Nat.{zero-lt-suc, mod-lt, div-eq_of_lt, lt_of_lt_of_le, div-one, zero-div, one-mul, pow-suc, mul-mod_left, le_of_suc-le-suc, not-suc-le-zero}
use borrow.Author.Tests.{eq-eqb, ne_eqb, eqb-true, eqb-false}
use native.Mathlib.Numerals.{one-add}
use native.Mathlib.Omega.{arith}
use lib.Dec.{eqb, eqb-suc-zero, eqb-zero-suc, eqb-suc-suc}
use lib.Pow.{shr-shr, pow_mono}
use lib.Bits.{bit_and, bit_or, and_shr, or_shr, and_mod, or_mod, shifted_half}
use lib.Count.{count_trailing_zeros, under}
use mir.Syntax.{w64}
use Rattle.std.proofs.lemmas.Bool.{cases_lt}
use Rattle.std.proofs.lemmas.Nat.Bits.{bit_at_not}
use Rattle.sets.specs.Set.{member}

-- an operation that works digit by digit, and on a digit as f does
module _ (op : ℕ → ℕ → ℕ)
    (shr : (a b k : ℕ) → op a b / 2 ^ k ≡ op (a / 2 ^ k) (b / 2 ^ k))
    (low : (a b k : ℕ) → op a b % 2 ^ k ≡ op (a % 2 ^ k) (b % 2 ^ k))
    (f : Bool → Bool → Bool)
    (t00 : eqb (op 0 0) 1 ≡ f false false)
    (t01 : eqb (op 0 1) 1 ≡ f false true)
    (t10 : eqb (op 1 0) 1 ≡ f true false)
    (t11 : eqb (op 1 1) 1 ≡ f true true) where
  digit : (x y : ℕ) → x < 2 → y < 2 → eqb (op x y) 1 ≡ f (eqb x 1) (eqb y 1)
  digit zero zero p q = t00
  digit zero (suc zero) p q = t01
  digit zero (suc (suc y)) p q = absurd (omega arith)
  digit (suc zero) zero p q = t10
  digit (suc zero) (suc zero) p q = t11
  digit (suc zero) (suc (suc y)) p q = absurd (omega arith)
  digit (suc (suc x)) y p q = absurd (omega arith)

  each : (a b i : ℕ) → member (op a b) i ≡ f (member a i) (member b i)
  unfolding member
  each a b i =
      ap (λ (x : ℕ). eqb (x % 2) 1) (shr a b i)
      ∙ ap (λ (x : ℕ). eqb x 1) (low (a / 2 ^ i) (b / 2 ^ i) 1)
      ∙ digit (a / 2 ^ i % 2) (b / 2 ^ i % 2) (mod-lt (a / 2 ^ i) (zero-lt-suc 1)) (mod-lt (b / 2 ^ i) (zero-lt-suc 1))

pub of_and : (a b i : ℕ) → member (bit_and a b) i ≡ (member a i && member b i)
of_and = each bit_and and_shr and_mod ◌&&◌ refl refl refl refl

pub of_or : (a b i : ℕ) → member (bit_or a b) i ≡ (member a i || member b i)
of_or = each bit_or or_shr or_mod ◌||◌ refl refl refl refl

-- `!b` of the machine has the digits below 64 that b has not
of_not : (b i : ℕ) → b < 2 ^ 64 → i < 64 → member (2 ^ 64 - 1 - b) i ≡ not (member b i)
unfolding member
of_not b i h l = ap (λ (x : ℕ). eqb x 1) (bit_at_not w64 b i h l) ∙ other (b / 2 ^ i % 2) (mod-lt (b / 2 ^ i) (zero-lt-suc 1))
  where
    other : (d : ℕ) → d < 2 → eqb (1 - d) 1 ≡ not (eqb d 1)
    other zero p = refl
    other (suc zero) p = refl
    other (suc (suc d)) p = absurd (omega arith)

-- no number of 64 bits has a digit from 64 on
beyond : (a i : ℕ) → a < 2 ^ 64 → 64 ≤ i → member a i ≡ false
unfolding member
beyond a i h l = ap (λ (x : ℕ). eqb (x % 2) 1) (div-eq_of_lt (lt_of_lt_of_le h (pow_mono l)))

pub of_minus : (a b i : ℕ) → a < 2 ^ 64 → b < 2 ^ 64 → member (bit_and a (2 ^ 64 - 1 - b)) i ≡ (member a i && not (member b i))
of_minus a b i h k = of_and a (2 ^ 64 - 1 - b) i ∙ ⊎_elim below from (cases_lt i 64)
  where
    below : i < 64 → (member a i && member (2 ^ 64 - 1 - b) i) ≡ (member a i && not (member b i))
    below l = ap (λ t. member a i && t) (of_not b i k l)

    from : 64 ≤ i → (member a i && member (2 ^ 64 - 1 - b) i) ≡ (member a i && not (member b i))
    from l = rw (beyond a i h l)

-- digit by digit, from the lowest
pub low : (m : ℕ) → member m 0 ≡ eqb (m % 2) 1
unfolding member
low m = ap (λ (x : ℕ). eqb (x % 2) 1) (div-one m)

pub next : (m i : ℕ) → member m (suc i) ≡ member (m / 2) i
unfolding member
next m i = ap (λ (x : ℕ). eqb (m / 2 ^ x % 2) 1) (sym (one-add i)) ∙ ap (λ (x : ℕ). eqb (x % 2) 1) (sym (shr-shr m 1 i))

pub of_none : (i : ℕ) → member 0 i ≡ false
unfolding member
of_none i = ap (λ (x : ℕ). eqb (x % 2) 1) (zero-div (2 ^ i))

pub of_only : (i j : ℕ) → member (2 ^ i) j ≡ eqb i j
of_only zero zero = low 1
of_only zero (suc j) = next 1 j ∙ of_none j ∙ sym (eqb-zero-suc j)
of_only (suc i) zero =
    low (2 ^ suc i) ∙ ap (λ (x : ℕ). eqb (x % 2) 1) (pow-suc 2 i) ∙ ap (λ (x : ℕ). eqb x 1) (mul-mod_left (2 ^ i) 2) ∙ sym (eqb-suc-zero i)
of_only (suc i) (suc j) =
    next (2 ^ suc i) j ∙ ap (λ (x : ℕ). member x j) half ∙ of_only i j ∙ sym (eqb-suc-suc i j)
  where
    half : 2 ^ suc i / 2 ≡ 2 ^ i
    half = ap (λ (x : ℕ). x / 2) (sym (one-mul (2 ^ suc i))) ∙ shifted_half 1 i ∙ one-mul (2 ^ i)

-- the lowest digit that is 1, among k digits
Low : ℕ → ℕ → ℕ → Type 0
Low k m i = (i < k) × (member m i ≡ true) × ((j : ℕ) → j < i → member m j ≡ false)

pub of_trailing : (k m : ℕ) → 0 < m → m < 2 ^ k → (count_trailing_zeros k m < k) × (member m (count_trailing_zeros k m) ≡ true) × ((j : ℕ) → j < count_trailing_zeros k m → member m j ≡ false)
unfolding Low count_trailing_zeros
of_trailing zero m p h = absurd (omega arith)
of_trailing (suc k) m p h = go (of_trailing k (m / 2)) (m % 2) refl
  where
    go : (0 < m / 2 → m / 2 < 2 ^ k → Low k (m / 2) (count_trailing_zeros k (m / 2))) → (d : ℕ) → m % 2 ≡ d → Low (suc k) m (under (m % 2) (count_trailing_zeros k (m / 2)))
    go ih zero e =
        let l = ih (omega arith) (omega (arith, pow-suc 2 k)) in
        rw e (suc-le-suc l.0, next m (count_trailing_zeros k (m / 2)) ∙ l.1, below l.2)
      where
        below : ((j : ℕ) → j < count_trailing_zeros k (m / 2) → member (m / 2) j ≡ false) → (j : ℕ) → j < suc (count_trailing_zeros k (m / 2)) → member m j ≡ false
        below f zero q = low m ∙ ap (λ (x : ℕ). eqb x 1) e
        below f (suc j) q = next m j ∙ f j (le_of_suc-le-suc q)
    go ih (suc d) e = rw e (zero-lt-suc k, low m ∙ eq-eqb (m % 2) 1 (omega arith), λ j q. absurd (not-suc-le-zero q))

-- a digit that is 1, and one that is 0
odd : (m : ℕ) → member m 0 ≡ true → m % 2 ≡ 1
odd m e = eqb-true (m % 2) 1 (sym (low m) ∙ e)

even : (m : ℕ) → member m 0 ≡ false → m % 2 ≡ 0
even m e = let n = eqb-false (m % 2) 1 (sym (low m) ∙ e) in omega arith

-- taking 1 away clears the lowest digit that is 1, and sets the ones below it
below_one : (i m : ℕ) → member m i ≡ true → ((j : ℕ) → j < i → member m j ≡ false) → (j : ℕ) → (member m j && member (m - 1) j) ≡ (member m j && not (eqb i j))
below_one zero m e f zero =
    let o = odd m e in
    let q : member (m - 1) 0 ≡ false = low (m - 1) ∙ ne_eqb ((m - 1) % 2) 1 (λ z. omega arith) in
    rw (e, q)
below_one zero m e f (suc j) =
    let o = odd m e in
    let q : (m - 1) / 2 ≡ m / 2 = omega arith in
    rw (next m j, next (m - 1) j, q, eqb-zero-suc, and_self, and-true)
below_one (suc i) m e f zero = rw (f 0 (zero-lt-suc i))
below_one (suc i) m e f (suc j) =
    let z = even m (f 0 (zero-lt-suc i)) in
    let ih = below_one i (m / 2) (sym (next m i) ∙ e) (λ k l. sym (next m k) ∙ f (suc k) (suc-le-suc l)) j in
    let p : 0 < m = pos m (suc i) e in
    let q : (m - 1) / 2 ≡ m / 2 - 1 = omega arith in
    rw (next m j, next (m - 1) j, q, eqb-suc-suc) ih
  where
    pos : (m i : ℕ) → member m i ≡ true → 0 < m
    pos zero i e = absurd (let y : ◌≡◌ {A = ℕ} 0 1 = cc (of_none i) in omega arith)
    pos (suc m) i e = zero-lt-suc m

pub of_drop : (m i : ℕ) → member m i ≡ true → ((j : ℕ) → j < i → member m j ≡ false) → (j : ℕ) → member (bit_and m (m - 1)) j ≡ (member m j && not (eqb i j))
of_drop m i e f j = of_and m (m - 1) j ∙ below_one i m e f j
