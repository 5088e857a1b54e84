-- Keys in turn: what a loop keeps that looks for the first key out of turn. Assumes nothing.
use mathlib.Core.Path.{◌≡◌, refl, sym, ap, ap₂, ◌∙◌}
use mathlib.Core.Bool.{Bool, true, false}
use Prim.Native.Nat.{ℕ, zero, suc, ◌+◌, ◌*◌, ◌≤◌, ◌<◌}
use native.Mathlib.Nat.{le_refl, mul-suc, mul-le-mul}
use native.Mathlib.Numerals.{add-one}
use native.Mathlib.Omega.{arith}
use Rattle.std.specs.Prelude.{Some}
use Rattle.lists.specs.Search.{first_in, found_in}
use Rattle.lists.proofs.Searches.{first-same}
use Rattle.lists.proofs.Loops.{Unfound, begins, passes, gives-found}
use Rattle.ledger.specs.Tx.{floor_of, wrong_key, out_of_turn}

pub floor_next : (key : ℕ → ℕ) (i : ℕ) → floor_of key (i + 1) ≡ key i + 1
unfolding floor_of
floor_next key i = ap (floor_of key) (add-one i)

-- two runs of keys that agree have the same first key out of turn
pub turns_same : (f g : ℕ → ℕ) (n : ℕ) → ((j : ℕ) → j < n → f j ≡ g j) → first_in (out_of_turn f) 0 n ≡ first_in (out_of_turn g) 0 n
unfolding floor_of
turns_same f g n h = first-same (out_of_turn f) (out_of_turn g) n (λ j l. ap₂ wrong_key (floors j l) (h j l))
  where
    floors : (j : ℕ) → j < n → floor_of f j ≡ floor_of g j
    floors zero l = refl
    floors (suc j) l = ap (λ x. x + 1) (h j (omega arith))

-- the first two bytes of an entry are within its run
pub key-within : (step i n : ℕ) → 2 ≤ step → i < n → step * i + 2 ≤ step * n
key-within step i n h l = omega (arith, mul-le-mul (le_refl step) l, mul-suc step i)

-- no key before i is out of turn, and floor is the least that may stand at i
pub record Turned (key : ℕ → ℕ) (n floor i : ℕ) : Type 0 where
  pub unfound : Unfound (out_of_turn key) 0 n i
  pub floor_is : floor ≡ floor_of key i

pub turned_begins : (key : ℕ → ℕ) (n : ℕ) → Turned key n 0 0
unfolding floor_of
turned_begins key n = record { unfound = begins (out_of_turn key) 0 n (omega arith); floor_is = refl }

-- the code's test of key k, as the search's
module _ (key : ℕ → ℕ) (n floor i k : ℕ) (t : Turned key n floor i) (less : i < n) (is : k ≡ key i) where
  test : (b : Bool) → wrong_key floor k ≡ b → out_of_turn key i ≡ b
  test b e = ap₂ wrong_key (sym t.floor_is) (sym is) ∙ e

  pub turned_found : wrong_key floor k ≡ true → Some i ≡ found_in (out_of_turn key) 0 n
  turned_found e = gives-found t.unfound less (test true e)

  pub turned_passes : wrong_key floor k ≡ false → Turned key n (k + 1) (i + 1)
  turned_passes e =
      record { unfound = passes t.unfound less (test false e); floor_is = ap (λ x. x + 1) is ∙ sym (floor_next key i) }
