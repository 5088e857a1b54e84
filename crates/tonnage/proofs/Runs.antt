-- Laws of runs of decimal digits: what they write, how many a number has, and how they are stored. Assumes nothing.
use mathlib.Core.Path.{◌≡◌, refl, sym, ap, ◌∙◌}
use mathlib.Core.Bool.{Bool, true, false, ◌||◌, true≢false}
use mathlib.Core.List.{List, [], ◌∷◌, ◌++◌}
use Prim.Native.Nat.{ℕ, zero, suc, ◌+◌, ◌-◌, ◌*◌, ◌/◌, ◌%◌, ◌^◌, ◌≤◌, ◌<◌, min}
use native.Mathlib.Nat.{div-lt_iff_lt-mul, pow-suc, one-le-pow}
use native.Mathlib.Omega.{arith}
use lib.ListN.{length, set, get_or, take, length-append}
use lib.Seq.{sets, slice, length-take-le}
use lib.Dec.{ltb, lit<}
use borrow.Author.Tests.{lt-ltb, le-ltb, ltb-true, ltb-false}
use Rattle.std.proofs.lemmas.List.{take_more, drop-append-le}
use Rattle.lists.proofs.Stores.{sets_append, set_after}
use Rattle.tonnage.specs.Text.{follow, digits, width_in, width, too_large}

-- ---- numbers held at most at `too_large`

-- a number may be held there before the digits that follow
pub held : (a : ℕ) (cs : List ℕ) → min too_large (follow (min too_large a) cs) ≡ min too_large (follow a cs)
unfolding follow
held a [] = omega arith
held a (c ∷ cs) =
    let e : min too_large (10 * min too_large a + (c - 48)) ≡ min too_large (10 * a + (c - 48)) = omega arith in
    sym (held (10 * min too_large a + (c - 48)) cs) ∙ rw e (held (10 * a + (c - 48)) cs)

-- one digit more
pub follow-append : (n : ℕ) (a b : List ℕ) → follow n (a ++ b) ≡ follow (follow n a) b
unfolding follow
follow-append n [] b = refl
follow-append n (c ∷ a) b = follow-append (10 * n + (c - 48)) a b

pub follow-last : (n : ℕ) (init : List ℕ) (d : ℕ) → follow n (init ++ (d ∷ [])) ≡ 10 * follow n init + (d - 48)
unfolding follow
follow-last n init d = follow-append n init (d ∷ [])

pub follow_more : (n : ℕ) (text : List ℕ) (from i s r : ℕ) → from ≤ i → i < length text → s ≡ min too_large (follow n (slice from i text))
    → r ≡ min too_large (10 * s + (get_or text i 0 - 48)) → r ≡ min too_large (follow n (slice from (i + 1) text))
follow_more n text from i s r l h e f =
    let k : from ≤ length (take i text) = omega (arith, length-take-le i text (omega arith)) in
    rw (take_more text i 0 h, drop-append-le from (take i text) (get_or text i 0 ∷ []) k, follow-last n (slice from i text) (get_or text i 0)) (omega arith)

-- what is no other character is a digit
pub digit_range : (c : ℕ) → (ltb c 48 || ltb 57 c) ≡ false → (48 ≤ c) × (c ≤ 57)
digit_range c e = go (ltb c 48) (ltb 57 c) refl refl e
  where
    go : (a b : Bool) → ltb c 48 ≡ a → ltb 57 c ≡ b → (a || b) ≡ false → (48 ≤ c) × (c ≤ 57)
    go false false p q r = (ltb-false c 48 p, ltb-false 57 c q)
    go false true p q r = absurd (true≢false r)
    go true b p q r = absurd (true≢false r)

pub no_other : (c : ℕ) → 48 ≤ c → c ≤ 57 → (ltb c 48 || ltb 57 c) ≡ false
no_other c h k = rw (le-ltb c 48 h, le-ltb 57 c k)

-- ---- how many digits

one-digit : (k n : ℕ) → n < 10 → width_in k n ≡ 1
unfolding width_in
one-digit zero n h = refl
one-digit (suc k) n h = rw (lt-ltb n 10 h, width_in)

more-digits : (k n : ℕ) → 10 ≤ n → width_in (suc k) n ≡ suc (width_in k (n / 10))
unfolding width_in
more-digits k n h = rw (le-ltb n 10 h, width_in)

-- how many may be looked for makes no difference once it is the number itself
enough : (k j n : ℕ) → n ≤ k → n ≤ j → width_in k n ≡ width_in j n
enough zero j n h l = one-digit zero n (omega arith) ∙ sym (one-digit j n (omega arith))
enough (suc k) zero n h l = one-digit (suc k) n (omega arith) ∙ sym (one-digit zero n (omega arith))
enough (suc k) (suc j) n h l = go (ltb n 10) refl (enough k j (n / 10))
  where
    go : (b : Bool) → ltb n 10 ≡ b → (n / 10 ≤ k → n / 10 ≤ j → width_in k (n / 10) ≡ width_in j (n / 10)) → width_in (suc k) n ≡ width_in (suc j) n
    go true e ih = one-digit (suc k) n (ltb-true n 10 e) ∙ sym (one-digit (suc j) n (ltb-true n 10 e))
    go false e ih =
        let m : 10 ≤ n = ltb-false n 10 e in
        more-digits k n m ∙ ap suc (ih (omega arith) (omega arith)) ∙ sym (more-digits j n m)

pub width_one : (n : ℕ) → n < 10 → width n ≡ 1
unfolding width
width_one n h = one-digit n n h

pub width-more : (n : ℕ) → 10 ≤ n → width n ≡ suc (width (n / 10))
unfolding width
width-more n h =
    let e : n ≡ suc (n - 1) = omega arith in
    enough n (suc (n - 1)) n (omega arith) (omega arith) ∙ more-digits (n - 1) n h ∙ ap suc (enough (n - 1) (n / 10) (n / 10) (omega arith) (omega arith))

-- each number below 10 to the k + 1 has at most k + 1 digits
pub narrow : (k n : ℕ) → n < 10 ^ suc k → width n ≤ suc k
narrow zero n h = omega (arith, width_one n h)
narrow (suc k) n h = go (ltb n 10) refl (narrow k (n / 10))
  where
    go : (b : Bool) → ltb n 10 ≡ b → (n / 10 < 10 ^ suc k → width (n / 10) ≤ suc k) → width n ≤ suc (suc k)
    go true e ih = omega (arith, width_one n (ltb-true n 10 e))
    go false e ih =
        let smaller : n / 10 < 10 ^ suc k = (div-lt_iff_lt-mul (lit< tt)).1 (rw pow-suc at h) in
        omega (arith, width-more n (ltb-false n 10 e), ih smaller)

pub width_some : (n : ℕ) → 0 < width n
width_some n = go (ltb n 10) refl
  where
    go : (b : Bool) → ltb n 10 ≡ b → 0 < width n
    go true e = omega (arith, width_one n (ltb-true n 10 e))
    go false e = omega (arith, width-more n (ltb-false n 10 e))

-- and each from 10 to the k on has more than k
wide : (k n : ℕ) → 10 ^ k ≤ n → k < width n
wide zero n h = width_some n
wide (suc k) n h =
    let tens : 10 ^ k * 10 ≤ n = rw pow-suc at h in
    let ten : 10 ≤ n = omega (arith, one-le-pow k 10 (lit< tt)) in
    omega (arith, width-more n ten, wide k (n / 10) (omega arith))

pub width_between : (k n : ℕ) → 10 ^ k ≤ n → n < 10 * 10 ^ k → width n ≡ k + 1
width_between k n h l = omega (arith, wide k n h, narrow k n (rw pow-suc (omega arith)))

-- ---- runs in a text

pub length_digits : (k n : ℕ) → length (digits k n) ≡ k
unfolding digits
length_digits zero n = refl
length_digits (suc k) n = rw (length-append, length_digits k (n / 10)) (omega arith)

-- the last digit may be stored before the others
pub put_last : (text : List ℕ) (at i n : ℕ) → 0 < i
    → sets text at (digits i n) ≡ sets (set text (at + (i - 1)) (48 + n % 10)) at (digits (i - 1) (n / 10))
unfolding digits
put_last text at i n h =
    let k : ℕ = i - 1 in
    let e : i ≡ suc k = omega arith in
    let l = length_digits k (n / 10) in
    ap (λ (m : ℕ). sets text at (digits m n)) e
    ∙ sets_append text at (digits k (n / 10)) ((48 + n % 10) ∷ [])
    ∙ rw l (set_after text at (digits k (n / 10)) (at + k) (48 + n % 10) (rw l (omega arith)))

pub put_none : (text : List ℕ) (at i n : ℕ) → i ≤ 0 → sets text at (digits i n) ≡ text
unfolding digits
put_none text at zero n h = refl
put_none text at (suc i) n h = absurd (omega arith)
