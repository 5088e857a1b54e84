-- What the pages of a batch say, page after page: who is current. Assumes nothing.
use mathlib.Core.Path.{◌≡◌, refl, sym, ap, ◌∙◌}
use mathlib.Core.Bool.{Bool, true, false, ◌&&◌, ◌||◌}
use Prim.Native.Nat.{ℕ, ◌+◌}
use native.Mathlib.Omega.{arith}
use borrow.Author.Tests.{le-ltb}
use lib.Dec.{eqb, ltb}
use Rattle.sets.specs.Set.{member}
use Rattle.sets.proofs.Laws.{none}
use Rattle.lists.proofs.Tests.{or-false}
use Rattle.planner.proofs.Demanding.{below_next}

-- ---- the set of those that pass a test

module _ (p : ℕ → Bool) where
  -- it has those below i that pass
  abbrev pub Passed : ℕ → ℕ → Type 0
  Passed set i = (j : ℕ) → member set j ≡ (ltb j i && p j)

  pub passed_none : Passed 0 0
  passed_none j = none j ∙ sym (ap (λ b. b && p j) (le-ltb j 0 (omega arith)))

  pub passed-more : (set new i : ℕ) → Passed set i → p i ≡ true → ((j : ℕ) → member new j ≡ (member set j || eqb i j)) → Passed new (i + 1)
  passed-more set new i inv e w j = w j ∙ ap (λ b. b || eqb i j) (inv j) ∙ ap (λ b. (ltb j i && p j) || b) (all (eqb i j)) ∙ below_next p j i
    where
      all : (b : Bool) → b ≡ (b && p i)
      all true = sym e
      all false = refl

  pub passed_less : (set i : ℕ) → Passed set i → p i ≡ false → Passed set (i + 1)
  passed_less set i inv e j = inv j ∙ sym (or-false (ltb j i && p j)) ∙ ap (λ b. (ltb j i && p j) || b) (no (eqb i j)) ∙ below_next p j i
    where
      no : (b : Bool) → false ≡ (b && p i)
      no true = sym e
      no false = refl
