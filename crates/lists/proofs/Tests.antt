-- Laws of tests: what `&&`, `||`, `not`, a choice and an equality of numbers say. Assumes nothing.
use mathlib.Core.Bool.{Bool, true, false, not, ◌&&◌, ◌||◌, cond}
use mathlib.Core.Logic.{◌⊎◌, inl, inr}
use mathlib.Core.Path.{◌≡◌, refl, sym, subst}
use Prim.Native.Nat.{ℕ, ◌≤◌}
use native.Mathlib.Omega.{arith}
use lib.Dec.{T, T_not, not_T, eqb, leb, ltb, eqb_refl, eqb→eq}
use borrow.Author.Tests.{ltb-true, ltb-false, lt-leb, le-leb, eq-eqb, ne_eqb}

pub both : (a b : Bool) → T a → T b → T (a && b)
both false b p q = elim p [ ]
both true b p q = q

pub and_left : (a b : Bool) → T (a && b) → T a
and_left false b p = elim p [ ]
and_left true b p = tt

pub and_right : (a b : Bool) → T (a && b) → T b
and_right false b p = elim p [ ]
and_right true b p = p

pub or_left : (a b : Bool) → T a → T (a || b)
or_left false b p = elim p [ ]
or_left true b p = tt

pub or_right : (a b : Bool) → T b → T (a || b)
or_right true b p = tt
or_right false b p = p

pub or_cases : (a b : Bool) → T (a || b) → T a ⊎ T b
or_cases true b p = inl tt
or_cases false b p = inr p

pub or-false : (b : Bool) → (b || false) ≡ b
or-false true = refl
or-false false = refl

-- a test passes or its negation does
pub decide : (b : Bool) → T b ⊎ T (not b)
decide true = inl tt
decide false = inr tt

-- a test that passes is true, one whose negation does is false
pub is_true : (b : Bool) → T b → b ≡ true
is_true false t = elim t [ ]
is_true true t = refl

pub is_false : (b : Bool) → T (not b) → b ≡ false
is_false true t = elim t [ ]
is_false false t = refl

pub of_true : (b : Bool) → b ≡ true → T b
of_true b e = rw e tt

pub clash : true ≡ false → ⊥
clash e = subst T e tt

-- two tests that pass together are equal
pub same_test : (a b : Bool) → (T a → T b) → (T b → T a) → a ≡ b
same_test true true f g = refl
same_test true false f g = absurd (f tt)
same_test false true f g = absurd (g tt)
same_test false false f g = refl

-- ---- the same said by equations, as contracts say it

pub or_either : (p q : Bool) → (p || q) ≡ true → (p ≡ true) ⊎ (q ≡ true)
or_either true q e = inl refl
or_either false q e = inr e

pub or-first : (p q : Bool) → p ≡ true → (p || q) ≡ true
or-first p q e = rw e refl

pub or_second : (p q : Bool) → q ≡ true → (p || q) ≡ true
or_second true q e = refl
or_second false q e = e

pub and_parts : (p q : Bool) → (p && q) ≡ true → (p ≡ true) × (q ≡ true)
and_parts true q e = (refl, e)
and_parts false q e = absurd (clash (sym e))

pub and-whole : (p q : Bool) → p ≡ true → q ≡ true → (p && q) ≡ true
and-whole true q e f = f
and-whole false q e f = e

pub minus_none : (p q : Bool) → (p && not q) ≡ false → p ≡ true → q ≡ true
minus_none true true e f = refl
minus_none true false e f = absurd (clash e)
minus_none false q e f = absurd (clash (sym f))

pub minus-some : (p q : Bool) → (p && not q) ≡ true → (p ≡ true) × (q ≡ false)
minus-some true true e = (refl, sym e)
minus-some true false e = (refl, refl)
minus-some false q e = absurd (clash (sym e))

-- a test that is not true is false
pub no_true : (b : Bool) → (b ≡ true → ⊥) → b ≡ false
no_true true f = absurd (f refl)
no_true false f = refl

pub not-not : (b : Bool) → not (not b) ≡ b
not-not true = refl
not-not false = refl

-- ---- choices, and numbers

module _ {B : Type 0} where
  -- what holds of x where b passes, and of y where it fails, holds of the choice between them
  pub by_test : (P : B → Type 0) (b : Bool) {x y : B} → (T b → P x) → (T (not b) → P y) → P (cond b x y)
  by_test P true f g = f tt
  by_test P false f g = g tt

-- unequal numbers, as a test and as a fact
pub eqb_turned : (i j : ℕ) → eqb i j ≡ eqb j i
eqb_turned i j = same_test (eqb i j) (eqb j i) (λ t. rw (eqb→eq i j t) (eqb_refl j)) (λ t. rw (eqb→eq j i t) (eqb_refl i))

pub eqb-sym : (i j : ℕ) → T (not (eqb i j)) → T (not (eqb j i))
eqb-sym i j t = rw (← eqb_turned i j) t

pub differ : (i j : ℕ) → T (not (eqb i j)) → i ≡ j → ⊥
differ i j t e = T_not (eqb i j) t (rw e (eqb_refl j))

pub unequal : (i j : ℕ) → (i ≡ j → ⊥) → T (not (eqb i j))
unequal i j f = not_T (eqb i j) (λ t. f (eqb→eq i j t))

-- at most as not above, and equal as not below
pub leb-not : (a b : ℕ) → leb a b ≡ not (ltb b a)
leb-not a b = go (ltb b a) refl
  where
    go : (c : Bool) → ltb b a ≡ c → leb a b ≡ not c
    go true e = lt-leb a b (ltb-true b a e)
    go false e = le-leb a b (ltb-false b a e)

pub eqb-not : (a b : ℕ) → a ≤ b → eqb a b ≡ not (ltb a b)
eqb-not a b h = go (ltb a b) refl
  where
    go : (c : Bool) → ltb a b ≡ c → eqb a b ≡ not c
    go true e = ne_eqb a b (λ q. absurd (omega (arith, ltb-true a b e)))
    go false e = eq-eqb a b (omega (arith, ltb-false a b e))
