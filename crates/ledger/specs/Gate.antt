-- Document 01, refusals 11 to 16: the gate of a batch, stage by stage. Assumes nothing.
use Rattle.std.specs.Prelude.{ℕ, ◌+◌, ◌*◌, ◌/◌, ◌%◌, Bool, not, ◌||◌, List, ◌∷◌, ◌++◌, length, eqb, ltb}
use Rattle.lists.specs.Search.{some_in}
use Rattle.lists.specs.Members.{any}
use Rattle.refusals.specs.Fault.{Row, row, in_turn, each_row, moved}
use Rattle.lists.specs.Tables.{tab}
use Rattle.ledger.specs.Tx.{Tx}
use Rattle.ledger.specs.Page.{page_tx, whole_rows, page_at}
use Rattle.ledger.specs.State.{State, keys, state_rows}

-- m, the pages of a batch, and the transaction on each
abbrev pub pages : List ℕ → ℕ
pages batch = length batch / 512

abbrev pub tx_at : List ℕ → ℕ → Tx
tx_at batch i = page_tx (page_at batch i)

unfoldable pub txs : List ℕ → List Tx
txs batch = tab (pages batch) (tx_at batch)

-- "15: ticket already on an earlier page"
abbrev pub again : List ℕ → ℕ → Bool
again batch i = some_in (λ j. eqb (tx_at batch j).ticket (tx_at batch i).ticket) 0 i

-- "16: key not below K"
abbrev pub beyond : ℕ → Tx → Bool
beyond k x = any (λ r. not (ltb r.key k)) x.reads || any (λ w. not (ltb w.key k)) x.writes

-- ---- the tables of the stages

-- "11: batch over 32768 bytes or no multiple of 512"
abbrev pub bytes_row : List ℕ → Row
bytes_row batch = row 11 0 (ltb 32768 (length batch) || not (eqb (length batch % 512) 0))

-- "11, 12, 13": the length of the batch, then the state
unfoldable pub front_rows : List ℕ → State → ℕ → List Row
front_rows batch s n = bytes_row batch ∷ state_rows s n

-- 14: whether a list that a service is lent is too short is told
abbrev pub lent_row : Bool → Row
lent_row short = row 14 0 short

-- "the lowest bad page with its first number of 2 to 10", at "page times 512 plus offset": the rows of page i
abbrev pub rows_at : List ℕ → ℕ → List Row
rows_at batch i = moved (λ q. i * 512 + q) (whole_rows (page_at batch i))

-- "the lowest bad page with its first number of 2 to 10, then 15, then 16", under K keys
unfoldable pub pages_rows : List ℕ → ℕ → List Row
pages_rows batch k =
    in_turn (pages batch) (rows_at batch)
    ++ (each_row 15 (pages batch) (again batch)
    ++ each_row 16 (pages batch) (λ i. beyond k (tx_at batch i)))

-- "Plan and commit: 11, 12, 13, 14, then the lowest bad page with its first number of 2 to 10, then 15, then 16";
-- what a service asks of its own between 13 and the pages is told
unfoldable pub gate_rows : List Row → List ℕ → State → ℕ → List Row
gate_rows own batch s n = front_rows batch s n ++ (own ++ pages_rows batch (keys s))
