-- What only the contracts between the ledger's functions say: no reader of a service's promise needs it. Assumes nothing.
use Rattle.std.specs.Prelude.{ℕ, suc, ◌*◌, ◌/◌, ◌≤◌, ◌<◌, false, List, [], ◌∷◌, ◌++◌, ◌≡◌, length, get_or, drop}
use Rattle.std.proofs.lemmas.List.Edits.{sets}
use Rattle.lists.specs.Tables.{tab}
use Rattle.refusals.specs.Fault.{clear, first, judged, after}
use Rattle.octets.specs.Bytes.{le, weighed}
use Rattle.ledger.specs.Tx.{Tx}
use Rattle.ledger.specs.Page.{read_count, write_count, size, page_tx, page_fault, page_at, with_page}
use Rattle.ledger.specs.Services.{WrittenPage, laid_rows}
use Rattle.ledger.specs.State.{State}
use Rattle.ledger.specs.Gate.{tx_at, beyond}
use Rattle.ledger.specs.Commit.{stamp, write, commit, verdicts, passed}

-- a page of 512 bytes whose counts are good: what reading it where it lies asks
pub record Counted (p : List ℕ) : Type 0 where
  pub whole : length p ≡ 512
  pub few-reads : read_count p ≤ 32
  pub few-writes : write_count p ≤ 32
  pub room : size (read_count p) (write_count p) ≤ 500

-- what writing leaves of bytes that are laid out already, with the check put behind them
unfoldable pub write_laid : List ℕ → ℕ → List ℕ → WrittenPage
write_laid batch index p =
    let wrong = first (laid_rows (page_tx p) index (length batch / 512)) in
    record { answer = judged wrong 0; batch = after wrong (with_page batch index (sets p 508 (le 4 (weighed p 508)))) batch }

-- a state of three lists of one length
pub record Level (s : State) : Type 0 where
  pub places : length s.places ≡ length s.blocks
  pub values : length s.values ≡ length s.blocks

-- a good page whose keys are below k
pub record Ready (k : ℕ) (p : List ℕ) : Type 0 where
  pub good : page_fault p ≡ clear
  pub within : beyond k (page_tx p) ≡ false

-- m such pages
pub record Batch (k : ℕ) (batch : List ℕ) (m : ℕ) : Type 0 where
  pub whole : length batch ≡ m * 512
  pub few : m ≤ 64
  pub each : (i : ℕ) → i < m → Ready k (page_at batch i)

-- the tickets of the first m pages
pub record TicketsOf (batch : List ℕ) (m : ℕ) (ts : List ℕ) : Type 0 where
  pub each : (i : ℕ) → i < m → get_or ts i 0 ≡ (tx_at batch i).ticket

-- the transactions on the pages that the first k entries of an order name, in its order
unfoldable pub txs_in : List ℕ → List ℕ → ℕ → List Tx
txs_in batch order k = tab k (λ i. tx_at batch (get_or order i 0))

-- what committing transactions in turn leaves: the count of those that pass, the state, and the verdicts in front of the lent ones
pub record Commitment (xs : List Tx) (s : State) (n : ℕ) (vs : List ℕ) (count : ℕ) (new : State) (filled : List ℕ) : Type 0 where
  pub count_is : count ≡ passed (verdicts n 0 s xs)
  pub state_is : new ≡ commit n 0 s xs
  pub verdicts_are : filled ≡ verdicts n 0 s xs ++ drop (length xs) vs

-- what the writes of transactions in turn leave, each at its place from i on, where none of them is asked whether it passes
unfoldable pub applied : ℕ → ℕ → State → List Tx → State
applied n i s [] = s
applied n i s (x ∷ xs) = applied n (suc i) (write (stamp n i) s x.writes) xs
