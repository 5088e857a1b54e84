-- Laws of texts that are laid out well: the tests of `laid` as facts, and each test that fails. Assumes nothing.
use mathlib.Core.Path.{◌≡◌, refl, ap, ◌∙◌}
use mathlib.Core.Bool.{Bool, true, false, not, ◌&&◌, ◌||◌, false≢true, cond}
use mathlib.Core.List.{List}
use Prim.Native.Nat.{ℕ, ◌+◌, ◌-◌, ◌≤◌, ◌<◌, min}
use native.Mathlib.Omega.{arith}
use lib.ListN.{length, get_or, take, drop}
use lib.Seq.{slice}
use lib.Dec.{eqb, ltb}
use borrow.Author.Tests.{lt-ltb, le-ltb, ltb-true, ltb-false, eq-eqb, eqb-true, eqb-false, not-true}
use Rattle.std.proofs.lemmas.List.{drop-take}
use Rattle.lists.specs.Search.{first_in, some_in}
use Rattle.tonnage.specs.Text.{minus, tonnes_at, point, other, laid, magnitude, follow, too_large}
use Rattle.tonnage.proofs.Runs.{held}

-- ---- conjunctions

pub and_both : (a b : Bool) → (a && b) ≡ true → (a ≡ true) × (b ≡ true)
and_both true b e = (refl, e)
and_both false b e = absurd (false≢true e)

pub and-false : (a : Bool) → (a && false) ≡ false
and-false true = refl
and-false false = refl

-- ---- what `laid` tests

pub start-one : (text : List ℕ) (s : ℕ) → s ≡ tonnes_at text → s ≤ 1
start-one text s e = rw e (go (minus text))
  where
    go : (b : Bool) → cond b 1 0 ≤ 1
    go true = omega arith
    go false = omega arith

pub record Laid (text : List ℕ) : Type 0 where
  pub long : tonnes_at text < point text
  pub whole : point text ≤ first_in (other text) (tonnes_at text) (point text)
  pub lean : get_or text (tonnes_at text) 0 ≡ 48 → point text ≤ tonnes_at text + 1
  pub comma : get_or text (point text) 0 ≡ 44
  pub part : length text ≤ first_in (other text) (point text + 1) (length text)

-- the test of needless zeros
lean_fact : (a s p : ℕ) → not (eqb a 48 && ltb (s + 1) p) ≡ true → a ≡ 48 → p ≤ s + 1
lean_fact a s p e h = ltb-false (s + 1) p (rw (eq-eqb a 48 h) at (not-true (eqb a 48 && ltb (s + 1) p) e))

lean_test : (a s p : ℕ) → (a ≡ 48 → p ≤ s + 1) → not (eqb a 48 && ltb (s + 1) p) ≡ true
lean_test a s p h = go (eqb a 48) refl
  where
    go : (b : Bool) → eqb a 48 ≡ b → not (b && ltb (s + 1) p) ≡ true
    go true e = rw (le-ltb (s + 1) p (h (eqb-true a 48 e)))
    go false e = refl

pub laid_facts : (text : List ℕ) → laid text ≡ true → Laid text
unfolding laid
laid_facts text e =
    let all = and_both _ _ e in
    let upto-comma = and_both _ _ all.0 in
    let upto-lean = and_both _ _ upto-comma.0 in
    let upto-whole = and_both _ _ upto-lean.0 in
    record {
      long = ltb-true _ _ upto-whole.0;
      whole = ltb-false _ _ (not-true _ upto-whole.1);
      lean = lean_fact _ _ _ upto-lean.1;
      comma = eqb-true _ _ upto-comma.1;
      part = ltb-false _ _ (not-true _ all.1);
    }

pub facts_laid : (text : List ℕ) → Laid text → laid text ≡ true
unfolding laid
facts_laid text l =
    rw (lt-ltb _ _ l.long, le-ltb _ _ l.whole, lean_test _ _ _ l.lean, eq-eqb _ _ l.comma, le-ltb _ _ l.part)

-- ---- as code tests it

-- a text of four characters behind the sign, or fewer
pub short : (text : List ℕ) (s : ℕ) → s ≡ tonnes_at text → length text ≤ s + 4 → false ≡ laid text
unfolding laid
short text s e h = simp (le-ltb (tonnes_at text) (point text) (omega arith))

-- no zero in front, or one alone
lean_same : (a s p : ℕ) → s < p → not (eqb a 48 && ltb (s + 1) p) ≡ (not (eqb a 48) || eqb (s + 1) p)
lean_same a s p h = go (eqb a 48) (eqb (s + 1) p) refl
  where
    go : (z b : Bool) → eqb (s + 1) p ≡ b → not (z && ltb (s + 1) p) ≡ (not z || b)
    go false b e = refl
    go true true e = rw (le-ltb (s + 1) p (omega (arith, eqb-true (s + 1) p e)))
    go true false e = rw (lt-ltb (s + 1) p (omega (arith, eqb-false (s + 1) p e)))

-- the tests of a longer one
pub tests : (text : List ℕ) (s : ℕ) → s ≡ tonnes_at text → s < point text → (whole part : Bool)
    → whole ≡ not (some_in (other text) s (point text)) → part ≡ not (some_in (other text) (point text + 1) (length text))
    → (whole && (not (eqb (get_or text s 0) 48) || eqb (s + 1) (point text)) && eqb (get_or text (point text) 0) 44 && part) ≡ laid text
unfolding laid
tests text s e long whole part f g =
    rw (f, g, ← lean_same (get_or text s 0) s (point text) long, e, lt-ltb (tonnes_at text) (point text) (rw e at long))

-- ---- the magnitude, held at most at `too_large`

-- a part of a text, as the code cuts it out
pub cut : (text : List ℕ) (s p : ℕ) → s ≤ p → slice s p text ≡ take (p - s) (drop s text)
cut text s p h = let e : p ≡ s + (p - s) = omega arith in ap (λ n. drop s (take n text)) e ∙ drop-take s (p - s) text

pub size-held : (text : List ℕ) (s w r : ℕ) → s ≡ tonnes_at text
    → w ≡ min too_large (follow 0 (slice s (point text) text))
    → r ≡ min too_large (follow w (slice (point text + 1) (length text) text)) → r ≡ min too_large (magnitude text)
unfolding magnitude
size-held text s w r e f g =
    rw (g, f, e) (held (follow 0 (slice (tonnes_at text) (point text) text)) (slice (point text + 1) (length text) text))
