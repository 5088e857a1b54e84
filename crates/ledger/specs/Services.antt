-- What the services on pages answer, for every input. Assumes nothing.
use Rattle.std.specs.Prelude.{ℕ, ◌/◌, not, List, [], ◌∷◌, ◌++◌, length, replicate, ltb, Result, Ok, Err}
use Rattle.refusals.specs.declared.Refusal.{Refusal}
use Rattle.refusals.specs.Outcome.{Outcome, gives, refuses, number_of}
use Rattle.refusals.specs.Fault.{Fault, Row, row, first, judged, after}
use Rattle.ledger.specs.declared.Transaction.{Transaction}
use Rattle.ledger.specs.declared.Counts.{Counts}
use Rattle.ledger.specs.Tx.{Tx, value_tx, padded, no_read, no_write}
use Rattle.ledger.specs.Page.{count_rows, entry_rows, page_tx, page_fault, page_of, with_page}

-- ---- checking a page

unfoldable pub check_page : List ℕ → Outcome Counts
check_page p = judged (page_fault p) (record { reads = length (page_tx p).reads; writes = length (page_tx p).writes })

-- ---- reading a page

-- the outcome, and the transaction that comes with it
pub record Taken : Type 0 where
  pub answer : Outcome Counts
  pub transaction : Transaction

-- no transaction: what comes with a refusal
abbrev pub no_transaction : Transaction
no_transaction = record { ticket = 0; r = 0; w = 0; reads = replicate 32 no_read; writes = replicate 32 no_write }

unfoldable pub read_page : List ℕ → Taken
read_page p = record { answer = check_page p; transaction = after (page_fault p) (padded (page_tx p)) no_transaction }

-- the answer of the reader as an outcome, with the transaction that comes with it
abbrev pub taken : Result Transaction Refusal → Taken
taken (Ok t) = record { answer = gives (record { reads = t.r; writes = t.w }); transaction = t }
taken (Err r) = record { answer = refuses (number_of r.reason) r.place; transaction = no_transaction }

-- ---- writing a page

-- the outcome, and the lent batch at the end
pub record WrittenPage : Type 0 where
  pub answer : Outcome ℕ
  pub batch : List ℕ

-- "17: page index not below the whole pages lent"
abbrev pub index_row : ℕ → ℕ → Row
index_row index pages = row 17 0 (not (ltb index pages))

-- 6 to 9, then 17
abbrev pub laid_rows : Tx → ℕ → ℕ → List Row
laid_rows x index pages = entry_rows x ++ (index_row index pages ∷ [])

-- "Writing a page: 4 to 9, then 17"
unfoldable pub write_rows : Transaction → ℕ → ℕ → List Row
write_rows t index pages = count_rows t.r t.w ++ laid_rows (value_tx t) index pages

abbrev pub write_fault : Transaction → ℕ → ℕ → Fault
write_fault t index pages = first (write_rows t index pages)

-- a page that is written has no count to give
unfoldable pub write_page : List ℕ → ℕ → Transaction → WrittenPage
write_page batch index t =
    let wrong = write_fault t index (length batch / 512) in
    record { answer = judged wrong 0; batch = after wrong (with_page batch index (page_of (value_tx t))) batch }

-- the answer of the writer as an outcome, with the batch as it is at the end
abbrev pub wrote_page : Result Unit Refusal → List ℕ → WrittenPage
wrote_page (Ok u) b = record { answer = gives 0; batch = b }
wrote_page (Err r) b = record { answer = refuses (number_of r.reason) r.place; batch = b }
