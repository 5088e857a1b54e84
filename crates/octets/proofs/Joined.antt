-- Bytes joined by `|`: what the search for a byte that is not zero keeps. Assumes nothing.
use mathlib.Core.Path.{◌≡◌, refl, sym}
use mathlib.Core.Bool.{Bool, true, false, not}
use mathlib.Core.List.{List}
use Prim.Native.Nat.{ℕ, ◌+◌, ◌≤◌, ◌<◌}
use native.Mathlib.Omega.{arith}
use lib.ListN.{get_or}
use lib.Dec.{eqb}
use lib.Bits.{bit_or, or_add_and, and_le_l, and_le_r}
use borrow.Author.Tests.{eq-eqb, ne_eqb, eqb-true, eqb-false}
use Rattle.lists.specs.Search.{some_in}
use Rattle.lists.proofs.Searches.{some, none}
use Rattle.lists.proofs.Loops.{Unfound, begins, found, passes, ends}
use Rattle.octets.specs.Bytes.{set?}

-- the join of two numbers is zero where both are, and nowhere else
or_none : (a b : ℕ) → bit_or a b ≡ 0 → (a ≡ 0) × (b ≡ 0)
or_none a b e =
    let s = or_add_and a b in
    (omega (arith, and_le_r a b), omega (arith, and_le_l a b))

or_some : (a b : ℕ) → (bit_or a b ≡ 0 → ⊥) → a ≡ 0 → b ≡ 0 → ⊥
or_some a b f p q = f (omega (arith, or_add_and a b))

-- the bytes from `from` up to i, joined: where the join is zero the search goes on, else a byte is found
pub record Joined (p : List ℕ) (from to all i : ℕ) : Type 0 where
  pub in_range : i ≤ to
  pub clear : all ≡ 0 → Unfound (set? p) from to i
  pub met : (all ≡ 0 → ⊥) → some_in (set? p) from to ≡ true

pub joined_begins : (p : List ℕ) (from to : ℕ) → from ≤ to → Joined p from to 0 from
joined_begins p from to h = record {
  in_range = h;
  clear = λ e. begins (set? p) from to h;
  met = λ f. absurd (f refl);
}

module _ (p : List ℕ) (from to all i : ℕ) (j : Joined p from to all i) where
  pub joined_turns : i < to → (byte next : ℕ) → byte ≡ get_or p i 0 → next ≡ i + 1 → Joined p from to (bit_or all byte) next
  joined_turns l byte next is up = rw (is, up) (record {
    in_range = omega arith;
    clear = λ e. let n = or_none all (get_or p i 0) e in passes (j.clear n.0) l (simp (eq-eqb _ _ n.1));
    met = λ f. go f (eqb all 0) refl;
  })
    where
      go : (bit_or all (get_or p i 0) ≡ 0 → ⊥) → (b : Bool) → eqb all 0 ≡ b → some_in (set? p) from to ≡ true
      go f true e =
          let z = eqb-true all 0 e in
          some (set? p) from to i (found (j.clear z) l (simp (ne_eqb _ _ (or_some all (get_or p i 0) f z)))) l
      go f false e = j.met (eqb-false all 0 e)

  pub joined-ends : to ≤ i → not (eqb all 0) ≡ some_in (set? p) from to
  joined-ends h = go (eqb all 0) refl
    where
      go : (b : Bool) → eqb all 0 ≡ b → not b ≡ some_in (set? p) from to
      go true e = sym (none (set? p) from to to (ends (j.clear (eqb-true all 0 e)) h) (omega arith))
      go false e = sym (j.met (eqb-false all 0 e))
