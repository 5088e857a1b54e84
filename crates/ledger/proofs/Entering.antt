-- Entries in one search, of their keys and of what stands behind them: what it keeps, and the two rows that it decides. Assumes nothing.
use mathlib.Core.Path.{◌≡◌, refl, ap}
use mathlib.Core.Bool.{Bool, true, false}
use mathlib.Core.List.{List, [], ◌∷◌}
use mathlib.Core.Logic.{⊎_elim}
use Prim.Native.Nat.{ℕ, ◌+◌, ◌-◌, ◌≤◌, ◌<◌}
use native.Mathlib.Nat.{eq-or-lt_of_le}
use native.Mathlib.Omega.{arith}
use lib.Dec.{ltb}
use borrow.Author.Tests.{lt-ltb, le-ltb}
use Rattle.lists.specs.Search.{some_in}
use Rattle.lists.proofs.Tests.{or-first, or_second}
use Rattle.lists.proofs.Searches.{none_at, some_at}
use Rattle.refusals.specs.Fault.{Row, row, first, is_clear}
use Rattle.ledger.specs.Tx.{floor_of, out_of_turn}
use Rattle.ledger.proofs.Turns.{floor_next}
use Rattle.ledger.proofs.Rising.{rise}

-- n entries with a key each, and a test that says which are wrong behind it; the numbers a and b of the two faults
module _ (a b : ℕ) (key : ℕ → ℕ) (wrong : ℕ → Bool) (n : ℕ) where
  -- the two rows, at any places
  abbrev pub two_rows : ℕ → ℕ → List Row
  two_rows s t = row a s (some_in (out_of_turn key) 0 n) ∷ row b t (some_in wrong 0 n) ∷ []

  first_there : (s t : ℕ) → some_in (out_of_turn key) 0 n ≡ true → false ≡ is_clear (first (two_rows s t))
  unfolding first
  first_there s t e = rw e

  second_there : (s t : ℕ) (c : Bool) → some_in wrong 0 n ≡ true → false ≡ is_clear (first (row a s c ∷ row b t (some_in wrong 0 n) ∷ []))
  unfolding first
  second_there s t true e = refl
  second_there s t false e = rw e

  none_there : (s t : ℕ) → some_in (out_of_turn key) 0 n ≡ false → some_in wrong 0 n ≡ false → true ≡ is_clear (first (two_rows s t))
  unfolding first
  none_there s t e f = rw (e, f)

  -- the entries before i: none is below the least that may stand there, and none is wrong
  pub record Entering (floor i : ℕ) : Type 0 where
    pub in_range : i ≤ n
    pub floor_is : floor ≡ floor_of key i
    pub floors : (j : ℕ) → j < i → floor_of key j ≤ key j
    pub right : (j : ℕ) → j < i → wrong j ≡ false

  pub entering_begins : Entering 0 0
  unfolding floor_of
  entering_begins = record { in_range = omega arith; floor_is = refl; floors = λ j h. absurd (omega arith); right = λ j h. absurd (omega arith) }

  -- no entries are good
  pub empty_good : (s t : ℕ) → n ≡ 0 → true ≡ is_clear (first (two_rows s t))
  empty_good s t z = none_there s t (none_at (out_of_turn key) n (λ i h. absurd (omega arith))) (none_at wrong n (λ i h. absurd (omega arith)))

  -- k is the key of the entry
  module _ (i k : ℕ) (is : k ≡ key i) (less : i < n) where
    pub too_high : (s t : ℕ) → 1023 < k → false ≡ is_clear (first (two_rows s t))
    too_high s t h = first_there s t (some_at (out_of_turn key) n i less (or_second (ltb (key i) (floor_of key i)) _ (lt-ltb 1023 (key i) (omega arith))))

    module _ (floor : ℕ) (e : Entering floor i) where
      pub falls : (s t : ℕ) → k < floor → false ≡ is_clear (first (two_rows s t))
      falls s t h = first_there s t (some_at (out_of_turn key) n i less (or-first (ltb (key i) (floor_of key i)) _ (lt-ltb (key i) (floor_of key i) (omega (arith, e.floor_is)))))

      pub entering_turns : (next : ℕ) → floor ≤ k → wrong i ≡ false → next ≡ k + 1 → Entering next (i + 1)
      entering_turns next h w up = record {
        in_range = omega arith;
        floor_is = omega (arith, floor_next key i);
        floors = λ j l. let o : j ≤ i = omega arith in ⊎_elim {C = floor_of key j ≤ key j} (λ q. rw q (omega (arith, e.floor_is))) (e.floors j) (eq-or-lt_of_le o);
        right = λ j l. let o : j ≤ i = omega arith in ⊎_elim {C = wrong j ≡ false} (λ q. rw q w) (e.right j) (eq-or-lt_of_le o);
      }

    pub is_wrong : (s t : ℕ) → wrong i ≡ true → false ≡ is_clear (first (two_rows s t))
    is_wrong s t w = second_there s t _ (some_at wrong n i less w)

  -- where the last key is at most 1023, all are
  pub entering_ends : (s t floor i top : ℕ) → Entering floor i → n ≤ i → top ≡ key (n - 1) → top ≤ 1023 → true ≡ is_clear (first (two_rows s t))
  entering_ends s t floor i top e h is low =
      let floors : (j : ℕ) → j < n → floor_of key j ≤ key j = λ j l. e.floors j (omega arith) in
      let small : (j : ℕ) → j < n → key j ≤ 1023 =
      λ j l.
      ⊎_elim
      (λ q. let f : key j ≡ key (n - 1) = ap key (omega arith) in omega arith)
      (λ m. omega (arith, rise key n floors j (n - 1) (omega arith) (omega arith)))
      (eq-or-lt_of_le l) in
      none_there s t
      (none_at (out_of_turn key) n (λ j l. rw (le-ltb _ _ (floors j l), le-ltb _ _ (small j l))))
      (none_at wrong n (λ j l. e.right j (omega arith)))
