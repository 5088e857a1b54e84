-- Entries of one kind on a page, reads or writes, as the functions that serve both kinds take them: no reader of a service's promise needs it. Assumes nothing.
use Rattle.std.specs.Prelude.{ℕ, ◌+◌, ◌*◌, ◌≤◌, Bool, List, [], ◌∷◌, ◌≡◌, length, get_or}
use Rattle.lists.specs.Tables.{tab}
use Rattle.refusals.specs.Fault.{Row, lowest_row}
use Rattle.ledger.specs.Tx.{out_of_turn}

-- n entries of a size that lie on a page, the first at `from`
pub record Lie (p : List ℕ) (size from n : ℕ) : Type 0 where
  pub whole : length p ≡ 512
  pub few : n ≤ 32
  pub within : from + size * n ≤ 512

-- what they are, as `at` reads one
abbrev pub listed : {X : Type 0} → (List ℕ → ℕ → X) → ℕ → List ℕ → ℕ → ℕ → List X
listed at size p from n = tab n (λ i. at p (from + size * i))

-- of entries whose i-th starts at `start i`: a key out of turn, told at its first byte, and an entry that is wrong behind its key, told there
abbrev pub rows_of : {X : Type 0} → ℕ → ℕ → (ℕ → ℕ) → X → (X → ℕ) → (X → Bool) → List X → List Row
rows_of keys form start none key wrong xs =
    let n = length xs in
    lowest_row keys start (out_of_turn (λ i. key (get_or xs i none))) 0 n ∷
    lowest_row form (λ i. start i + 2) (λ i. wrong (get_or xs i none)) 0 n ∷
    []
