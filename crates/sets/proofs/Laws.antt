-- Laws of sets, by `member` alone. Assumes nothing.
use mathlib.Core.Path.{◌≡◌, refl, sym, ap, ◌∙◌}
use mathlib.Core.Bool.{Bool, true, false, not, ◌&&◌, ◌||◌, and-true, and-false}
use Prim.Native.Nat.{ℕ, zero, suc, ◌+◌, ◌/◌, ◌%◌, ◌^◌, ◌≤◌, ◌<◌}
use native.Mathlib.Nat.{eq-or-lt_of_le, le_of_suc-le-suc, not-suc-le-zero, zero-lt-suc, mod-lt, div-eq_of_lt, lt_of_lt_of_le, lt_of_not-le}
use lib.Pow.{pow_mono}
use native.Mathlib.Omega.{arith}
use mathlib.Core.Logic.{⊎_elim}
use lib.Arith.{bin_ind}
use borrow.Author.Tests.{eq-eqb, ne_eqb}
use lib.Dec.{eqb}
use lib.Bits.{bit_or, or_add_and, and_le_r}
use Rattle.lists.proofs.Tests.{clash, minus-some, or-first, or_second}
use Rattle.sets.specs.Set.{member, how_many, one_if}
use Rattle.sets.proofs.Digits.{low, next, of_none, of_or, of_trailing}

same-digit : (x y : ℕ) → x < 2 → y < 2 → eqb x 1 ≡ eqb y 1 → x ≡ y
same-digit zero zero p q e = refl
same-digit zero (suc zero) p q e = cc
same-digit zero (suc (suc y)) p q e = absurd (omega arith)
same-digit (suc zero) zero p q e = cc
same-digit (suc zero) (suc zero) p q e = refl
same-digit (suc zero) (suc (suc y)) p q e = absurd (omega arith)
same-digit (suc (suc x)) y p q e = absurd (omega arith)

-- two numbers with equal halves and the same lowest digit
halves : (a b : ℕ) → a / 2 ≡ b / 2 → member a 0 ≡ member b 0 → a ≡ b
halves a b h e =
    let d : a % 2 ≡ b % 2 = same-digit (a % 2) (b % 2) (mod-lt a (zero-lt-suc 1)) (mod-lt b (zero-lt-suc 1)) (sym (low a) ∙ e ∙ low b) in
    omega arith

-- sets with the same members are equal
pub same : (a b : ℕ) → ((i : ℕ) → member a i ≡ member b i) → a ≡ b
same =
    bin_ind (λ (n : ℕ). (b : ℕ) → ((i : ℕ) → member n i ≡ member b i) → n ≡ b)
    (bin_ind (λ (n : ℕ). ((i : ℕ) → member 0 i ≡ member n i) → 0 ≡ n) (λ e. refl)
    (λ n ih e. halves 0 n (ih (λ i. of_none i ∙ sym (of_none (suc i)) ∙ e (suc i) ∙ next n i)) (e 0)))
    (λ n ih b e. halves n b (ih (b / 2) (λ i. sym (next n i) ∙ e (suc i) ∙ next b i)) (e 0))

-- a part of a set is no greater a number, and where something is missing it is less
pub part-le : (a b : ℕ) → ((i : ℕ) → member a i ≡ true → member b i ≡ true) → a ≤ b
part-le a b h = omega (arith, or_add_and a b, and_le_r a b, same (bit_or a b) b (λ i. of_or a b i ∙ absorb (member a i) (member b i) (h i)))
  where
    absorb : (p q : Bool) → (p ≡ true → q ≡ true) → (p || q) ≡ q
    absorb true q f = sym (f refl)
    absorb false q f = refl

pub part-lt : (a b i : ℕ) → ((j : ℕ) → member a j ≡ true → member b j ≡ true) → member a i ≡ false → member b i ≡ true → a < b
part-lt a b i h p q = omega (arith, part-le a b h, differ)
  where
    differ : a ≡ b → ⊥
    differ e = clash (sym q ∙ ap (λ (x : ℕ). member x i) (sym e) ∙ p)

-- nothing is in 0
pub none : (i : ℕ) → member 0 i ≡ false
none = of_none

-- a set of k places has members below k alone, and one that is not 0 has some
pub within : (k m i : ℕ) → m < 2 ^ k → member m i ≡ true → i < k
unfolding member
within k m i h e = lt_of_not-le (λ l. clash (sym e ∙ ap (λ (x : ℕ). eqb (x % 2) 1) (div-eq_of_lt (lt_of_lt_of_le h (pow_mono l)))))

pub some : (k m : ℕ) → 0 < m → m < 2 ^ k → (i : ℕ) × (member m i ≡ true)
some k m p h = (_, (of_trailing k m p h).1)

-- one that has a member is not 0
pub nonzero : (m i : ℕ) → member m i ≡ true → 0 < m
nonzero zero i e = absurd (clash (sym e ∙ none i))
nonzero (suc m) i e = zero-lt-suc m

-- sizes: of sets that agree below n, of 0, and of a set without one of its members
pub size_same : (m r n : ℕ) → ((j : ℕ) → j < n → member m j ≡ member r j) → how_many m n ≡ how_many r n
unfolding how_many
size_same m r zero h = refl
size_same m r (suc n) h = rw (size_same m r n (λ j l. h j (omega arith)), h n (omega arith))

pub size_none : (n : ℕ) → how_many 0 n ≡ 0
unfolding how_many
size_none zero = refl
size_none (suc n) = rw (size_none n, none n)

pub size_less : (m r i n : ℕ) → member m i ≡ true → i < n → ((j : ℕ) → member r j ≡ (member m j && not (eqb i j))) → how_many m n ≡ how_many r n + 1
unfolding how_many
size_less m r i zero e h w = absurd (not-suc-le-zero h)
size_less m r i (suc n) e h w = ⊎_elim here (λ l. there (size_less m r i n e l w) l) (eq-or-lt_of_le (le_of_suc-le-suc h))
  where
    other : (j : ℕ) → (i ≡ j → ⊥) → member r j ≡ member m j
    other j d = w j ∙ rw (ne_eqb i j d, and-true)

    here : i ≡ n → how_many m n + one_if (member m n) ≡ how_many r n + one_if (member r n) + 1
    here q =
        let a : one_if (member m n) ≡ 1 = rw (← q, e) in
        let b : one_if (member r n) ≡ 0 = rw (w n, eq-eqb i n q, and-false) in
        let s : how_many m n ≡ how_many r n = size_same m r n (λ j l. sym (other j (λ z. omega arith))) in
        omega arith

    there : how_many m n ≡ how_many r n + 1 → i < n → how_many m n + one_if (member m n) ≡ how_many r n + one_if (member r n) + 1
    there s l = let a : one_if (member r n) ≡ one_if (member m n) = ap one_if (other n (λ z. omega arith)) in omega arith

-- a set without one of its members is a smaller number: the measure of a loop that takes one member a turn
pub without-lt : (m r i : ℕ) → member m i ≡ true → ((j : ℕ) → member r j ≡ (member m j && not (eqb i j))) → r < m
without-lt m r i e w =
    part-lt r m i (λ j z. (minus-some (member m j) (eqb i j) (sym (w j) ∙ z)).0) (w i ∙ rw (eq-eqb i i refl, and-false)) e

-- and one more member makes it greater
pub with_lt : (m r i : ℕ) → member m i ≡ false → ((j : ℕ) → member r j ≡ (member m j || eqb i j)) → m < r
with_lt m r i e w = part-lt m r i (λ j z. w j ∙ or-first (member m j) _ z) e (w i ∙ or_second (member m i) _ (eq-eqb i i refl))

pub size-le : (m r n : ℕ) → ((j : ℕ) → member r j ≡ true → member m j ≡ true) → how_many r n ≤ how_many m n
unfolding how_many
size-le m r zero h = omega arith
size-le m r (suc n) h = let a = size-le m r n h in let b = one-le (member r n) (member m n) (h n) in omega arith
  where
    one-le : (p q : Bool) → (p ≡ true → q ≡ true) → one_if p ≤ one_if q
    one-le true q f = rw (f refl) (omega arith)
    one-le false q f = omega arith

pub size-all : (m n : ℕ) → how_many m n ≤ n
unfolding how_many
size-all m zero = omega arith
size-all m (suc n) = let a = size-all m n in let b = bit (member m n) in omega arith
  where
    bit : (p : Bool) → one_if p ≤ 1
    bit true = omega arith
    bit false = omega arith
