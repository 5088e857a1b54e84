-- Laws of numbers in bytes and of the weighed sum. Assumes nothing.
use mathlib.Core.Path.{◌≡◌, sym, ap, ap₂, ◌∙◌}
use mathlib.Core.Bool.{false}
use mathlib.Core.List.{List}
use Prim.Native.Nat.{ℕ, zero, suc, ◌+◌, ◌-◌, ◌*◌, ◌^◌, ◌≤◌, ◌<◌}
use native.Mathlib.Nat.{zero-add, add-zero, suc-add, add-suc, pow-succ', mul_assoc, mul-zero, mul-le-mul, le-pred_of_lt, le_refl}
use native.Mathlib.Numerals.{add-one}
use native.Mathlib.Omega.{arith}
use lib.ListN.{get_or, take, drop}
use lib.Seq.{get_or-take, get_or-drop}
use lib.Dec.{eqb}
use borrow.Author.Tests.{eqb-true, not-false}
use Rattle.std.specs.Int.{sum_through, byte_worth}
use Rattle.lists.specs.Search.{some_in}
use Rattle.lists.proofs.Searches.{missed_from}
use Rattle.octets.specs.Bytes.{field, weighed, set?, Small}

-- a field of m + n bytes is its m lower bytes and its n upper bytes
pub field-add : (p : List ℕ) (at m n : ℕ) → field p at (m + n) ≡ field p at m + 256 ^ m * field p (at + m) n
unfolding field
field-add p at zero n = simp (zero-add, add-zero) (omega arith)
field-add p at (suc m) n =
    simp (suc-add, field-add p (suc at) m n, add-suc, pow-succ')
    (omega (arith, mul_assoc 256 (256 ^ m) (field p (suc (at + m)) n)))

-- a byte of a part
pub byte_at : (p : List ℕ) (at m i : ℕ) → i < m → get_or (take m (drop at p)) i 0 ≡ get_or p (at + i) 0
byte_at p at m i h = get_or-take m (drop at p) i 0 h ∙ get_or-drop at p i 0

-- a field is what the library makes of its bytes
field-one : (p : List ℕ) (at : ℕ) → get_or p at 0 ≡ field p at 1
unfolding field
field-one p at = omega arith

pub number-field : (p : List ℕ) (at m n : ℕ) → n < m → sum_through (λ i. byte_worth i (get_or (take m (drop at p)) i 0)) n ≡ field p at (suc n)
number-field p at m zero h = byte_at p at m 0 h ∙ rw add-zero (field-one p at)
number-field p at m (suc n) h =
    ap₂ (λ a b. a + b * 256 ^ suc n) (number-field p at m n (omega arith)) (byte_at p at m (suc n) h ∙ field-one p (at + suc n))
    ∙ omega (arith, ap (field p at) (add-one (suc n)), field-add p at (suc n) 1)

-- a byte that is not set is zero
set_none : (p : List ℕ) (i : ℕ) → set? p i ≡ false → get_or p i 0 ≡ 0
set_none p i e = eqb-true (get_or p i 0) 0 (not-false (eqb (get_or p i 0) 0) e)

-- one term of the check: an offset below 508, and a byte
pub term_le : {a b : ℕ} → a ≤ 508 → b < 256 → a * b ≤ 129540
term_le h k = mul-le-mul h (le-pred_of_lt k)

pub weighed-next : (p : List ℕ) (i : ℕ) → weighed p (i + 1) ≡ weighed p i + (i + 1) * get_or p i 0
unfolding weighed
weighed-next p i = ap (weighed p) (add-one i)

-- zero bytes add nothing
pub weighed-zeros : (p : List ℕ) (a b : ℕ) → ((i : ℕ) → a ≤ i → i < a + b → get_or p i 0 ≡ 0) → weighed p (a + b) ≡ weighed p a
unfolding weighed
weighed-zeros p a zero h = rw add-zero
weighed-zeros p a (suc b) h =
    rw (add-suc, h (a + b) (omega arith) (omega arith), mul-zero, add-zero) (weighed-zeros p a b (λ i l k. h i l (omega arith)))

-- so the sum of a page whose bytes from `used` on are zero is that of its first bytes, n or more
pub weighed_used : (p : List ℕ) (used n : ℕ) → used ≤ n → n ≤ 508 → some_in (set? p) used 508 ≡ false → weighed p n ≡ weighed p 508
weighed_used p used n h k e =
    let whole : n + (508 - n) ≡ 508 = omega arith in
    sym (weighed-zeros p n (508 - n) (λ i l o. set_none p i (missed_from (set? p) used 508 e i (omega arith) (omega arith))))
    ∙ ap (weighed p) whole

-- 1 + 2 + .. + n
abbrev tri : ℕ → ℕ
tri zero = 0
tri (suc n) = tri n + (n + 1)

weighed_most : (p : List ℕ) → Small p → (n : ℕ) → weighed p n ≤ 255 * tri n
unfolding weighed
weighed_most p small zero = omega arith
weighed_most p small (suc n) =
    let term : (n + 1) * get_or p n 0 ≤ (n + 1) * 255 = mul-le-mul (le_refl (n + 1)) (le-pred_of_lt (small n)) in
    omega (arith, weighed_most p small n, term)

-- "It is at most 32,967,930."
pub check_most : (p : List ℕ) → Small p → weighed p 508 ≤ 32967930
check_most p small = weighed_most p small 508
