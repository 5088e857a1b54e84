-- Demand 1: each number of the table is given on some input. Assumes nothing.
use Prim.Native.Nat.{ℕ}
use mathlib.Core.List.{List, [], ◌∷◌, ◌++◌}
use mathlib.Core.Path.{◌≡◌, refl}
use lib.ListN.{replicate, set}
use lib.IntN.{pos}
use Rattle.lists.specs.Search.{seek, first_in}
use Rattle.refusals.specs.Outcome.{Outcome, refuses}
use Rattle.refusals.specs.Fault.{first, rows_from, moved}
use Rattle.tonnage.specs.Text.{digits, width_in, width, text_of}
use Rattle.tonnage.specs.Services.{write_text}
use Rattle.tonnage.specs.Services.{text_rows}
use Rattle.lists.specs.Tables.{flat, tab}
use Rattle.octets.specs.Bytes.{field, weighed, le}
use Rattle.ledger.specs.Version.{at}
use Rattle.ledger.specs.Tx.{value_tx, floor_of}
use Rattle.ledger.specs.Page.{count_rows, entry_rows, head_rows, whole_rows, page_rows, page_tx, body_of, page_of}
use Rattle.ledger.specs.Services.{read_page, check_page, write_rows, write_page}
use Rattle.ledger.specs.State.{State, state_of, entry, state_rows}
use Rattle.ledger.specs.Gate.{front_rows, pages_rows, gate_rows}
use Rattle.ledger.specs.Commit.{commit_batch}
use Rattle.claims.specs.Cases.{tx, absent_read, put, with_counts, bytes7, fresh, number, batch_of}

-- 508 bytes with their check behind them
abbrev pub sealed : List ℕ → List ℕ
sealed body = body ++ le 4 (weighed body 508)

-- ---- reading a page

module _ where
  pub page_1 : (read_page []).answer ≡ refuses 1 0
  unfolding read_page check_page first page_rows
  page_1 = refl

  pub page_2 : (read_page (set bytes7 508 0xc1)).answer ≡ refuses 2 508
  unfolding read_page check_page first page_rows whole_rows head_rows count_rows weighed field
  page_2 = refl

  pub page_3 : (read_page (sealed (0x55 ∷ replicate 507 0))).answer ≡ refuses 3 0
  unfolding read_page check_page first page_rows whole_rows head_rows count_rows weighed field le
  page_3 = refl

  pub page_4 : (read_page (sealed (0x54 ∷ 33 ∷ replicate 506 0))).answer ≡ refuses 4 1
  unfolding read_page check_page first page_rows whole_rows head_rows count_rows weighed field le
  page_4 = refl

  pub page_5 : (read_page (sealed (0x54 ∷ 26 ∷ 25 ∷ replicate 505 0))).answer ≡ refuses 5 1
  unfolding read_page check_page first page_rows whole_rows head_rows count_rows weighed field le
  page_5 = refl

  pub page_6 : (read_page (page_of (tx 0 (absent_read 3 ∷ absent_read 3 ∷ []) []))).answer ≡ refuses 6 16
  unfolding read_page check_page first page_rows whole_rows head_rows count_rows entry_rows page_tx weighed field le flat tab body_of page_of first_in seek floor_of
  page_6 = refl

  pub page_7 : (read_page (page_of (tx 0 (record { key = 3; version = at 4 64 } ∷ []) []))).answer ≡ refuses 7 10
  unfolding read_page check_page first page_rows whole_rows head_rows count_rows entry_rows page_tx weighed field le flat tab body_of page_of first_in seek floor_of
  page_7 = refl

  pub page_8 : (read_page (page_of (tx 0 [] (put 3 1 ∷ put 3 2 ∷ [])))).answer ≡ refuses 8 20
  unfolding read_page check_page first page_rows whole_rows head_rows count_rows entry_rows page_tx weighed field le flat tab body_of page_of first_in seek floor_of
  page_8 = refl

  pub page_9 : (read_page (page_of (tx 0 [] (record { key = 3; kind = 1; value = pos 1 } ∷ [])))).answer ≡ refuses 9 10
  unfolding read_page check_page first page_rows whole_rows head_rows count_rows entry_rows page_tx weighed field le flat tab body_of page_of first_in seek floor_of
  page_9 = refl

  pub page_10 : (read_page (sealed (0x54 ∷ replicate 506 0 ++ (1 ∷ [])))).answer ≡ refuses 10 507
  unfolding read_page check_page first page_rows whole_rows head_rows count_rows entry_rows page_tx weighed field le tab first_in seek floor_of
  page_10 = refl

-- ---- batches

-- a state with a wrong entry at key 3
abbrev wrong : State
wrong = state_of (replicate 8 0) (replicate 3 65535 ++ (64 ∷ replicate 4 65535)) (replicate 8 (pos 0))

-- the two pages of some transactions, committed on a state with some verdicts lent
abbrev answer : List ℕ → State → List ℕ → Outcome ℕ
answer batch s vs = (commit_batch batch s number vs).answer

module _ where
  pub batch_8 : answer (batch_of (tx 5 [] [] ∷ tx 6 (absent_read 7 ∷ []) (put 5 1 ∷ put 5 2 ∷ []) ∷ [])) fresh (replicate 2 9) ≡ refuses 8 540
  unfolding commit_batch first rows_from moved gate_rows front_rows state_rows pages_rows first_in seek entry batch_of whole_rows head_rows count_rows entry_rows page_tx weighed field le flat tab body_of page_of floor_of
  batch_8 = refl

  pub batch_11 : answer (replicate 511 0) fresh [] ≡ refuses 11 0
  unfolding commit_batch first gate_rows front_rows state_rows
  batch_11 = refl

  pub batch_12 : answer [] (state_of [] [] []) [] ≡ refuses 12 0
  unfolding commit_batch first gate_rows front_rows state_rows
  batch_12 = refl

  pub batch_13 : answer [] wrong [] ≡ refuses 13 3
  unfolding commit_batch first rows_from gate_rows front_rows state_rows first_in seek entry
  batch_13 = refl

  pub batch_14 : answer (replicate 512 0) fresh [] ≡ refuses 14 0
  unfolding commit_batch first rows_from gate_rows front_rows state_rows first_in seek entry
  batch_14 = refl

  pub batch_15 : answer (batch_of (tx 5 [] [] ∷ tx 5 [] [] ∷ [])) fresh (replicate 2 9) ≡ refuses 15 1
  unfolding commit_batch first rows_from moved gate_rows front_rows state_rows pages_rows first_in seek entry batch_of whole_rows head_rows count_rows entry_rows page_tx weighed field le flat tab body_of page_of floor_of
  batch_15 = refl

  pub batch_16 : answer (batch_of (tx 5 [] [] ∷ tx 6 (absent_read 8 ∷ []) [] ∷ [])) fresh (replicate 2 9) ≡ refuses 16 1
  unfolding commit_batch first rows_from moved gate_rows front_rows state_rows pages_rows first_in seek entry batch_of whole_rows head_rows count_rows entry_rows page_tx weighed field le flat tab body_of page_of floor_of
  batch_16 = refl

-- ---- writing a page, and writing a text

pub write_17 : (write_page [] 0 (with_counts 0 0)).answer ≡ refuses 17 0
unfolding write_page first write_rows count_rows entry_rows value_tx first_in seek
write_17 = refl

pub text_20 : (write_text [] (pos 0)).answer ≡ refuses 20 0
unfolding write_text first text_rows text_of digits width width_in
text_20 = refl
