-- The table of the P cases, proved by computation. Assumes nothing.
use Prim.Native.Nat.{ℕ, ◌*◌, ◌≤◌}
use native.Mathlib.Omega.{arith}
use mathlib.Core.List.{List, [], ◌∷◌}
use mathlib.Core.Path.{◌≡◌, refl, ap, ◌∙◌}
use lib.ListN.{take, replicate, length-replicate}
use lib.IntN.{pos}
use Rattle.refusals.specs.Outcome.{gives, refuses}
use Rattle.refusals.specs.Fault.{first, rows_from, moved}
use Rattle.ledger.specs.Version.{at}
use Rattle.lists.specs.Search.{seek, first_in}
use Rattle.tonnage.specs.Text.{follow, magnitude, laid, form, figure}
use Rattle.tonnage.specs.Services.{read_rows, read_text}
use Rattle.lists.specs.Tables.{flat, tab}
use Rattle.octets.specs.Bytes.{field, weighed, le}
use Rattle.ledger.specs.Tx.{Tx, keys_read, keys_written, value_tx, padded, floor_of}
use Rattle.ledger.specs.Tx.{reader as readerOf}
use Rattle.ledger.specs.Page.{count_rows, entry_rows, head_rows, whole_rows, page_rows, page_tx, body_of, page_of}
use Rattle.ledger.specs.Services.{check_page, read_page, write_rows, write_page}
use Rattle.ledger.specs.declared.Entry.{Entry}
use Rattle.ledger.specs.State.{entry, store, state_rows}
use Rattle.ledger.specs.Gate.{pages, front_rows, pages_rows, gate_rows, txs}
use Rattle.ledger.specs.Commit.{passes, write, after_page, commit as commitAll, verdicts, passed, commit_batch}
use Rattle.orders.specs.Chain.{joined, cyclic}
use Rattle.orders.specs.Admission.{admit}
use Rattle.orders.specs.Arrange.{lowest as lowestTicket, without, arrange, by_ticket, free, schedule}
use Rattle.planning.specs.Plan.{before, sequence, kept, verdict, order, gathered, plans, plan_batch}
use Rattle.lists.specs.Ascii.{ascii}
use Rattle.claims.specs.Cases.{text, page, plan, commit, written, Holds, Hold, table, joined_table, fresh, number, batch_of, plan_of}
use Rattle.claims.specs.Cases.{joined as both}
use Rattle.claims.specs.Cases.{with_counts, ticket7, bytes7, crossing, reader_first, writers, failing}
use Rattle.claims.proofs.Joined.{two_calls}

-- every case that document 01 marks P holds of the definitions that the promises cite
pub cases : Hold table
unfolding first rows_from moved ascii read_text read_rows form laid first_in seek magnitude follow figure write_page write_rows count_rows entry_rows value_tx floor_of page_of body_of weighed le flat tab read_page check_page page_rows whole_rows head_rows page_tx field padded
    batch_of gate_rows front_rows state_rows pages_rows txs entry store passes write after_page commitAll verdicts passed commit_batch
    joined cyclic admit lowestTicket without arrange by_ticket free schedule keys_read keys_written readerOf before sequence kept verdict order gathered plans plan_batch
cases = (
  refl,
  (
    refl,
    (
      refl,
      (
        refl,
        (
          (refl, refl),
          (
            refl,
            (
              refl,
              ((refl, refl, refl), ((refl, refl, refl), ((refl, refl, refl), (refl, ((refl, refl, refl), tt))))),
            ),
          ),
        ),
      ),
    ),
  ),
)

-- ---- the joined call, which is the two calls

-- what commit leaves on the kept pages of two plans, at key 3
settled_3 :
    (entry (commit_batch (take 512 (plan_of crossing).out) fresh number (replicate 2 9)).state 3 ≡ record { version = at number 0; value = pos 2 })
    × (entry (commit_batch (take 1024 (plan_of writers).out) fresh number (replicate 2 9)).state 3 ≡ record { version = at number 1; value = pos 5 })
unfolding first rows_from moved first_in seek count_rows entry_rows floor_of page_of body_of weighed le flat tab whole_rows head_rows page_tx field
    batch_of gate_rows front_rows state_rows pages_rows txs entry store passes write after_page commitAll verdicts passed commit_batch
    joined cyclic admit lowestTicket without arrange by_ticket free schedule keys_read keys_written readerOf before sequence kept verdict order gathered plans plan_batch
settled_3 = (refl, refl)

two_pages : (pages (batch_of crossing) ≡ 2) × (pages (batch_of writers) ≡ 2)
unfolding batch_of page_of body_of weighed le flat
two_pages = (refl, refl)

joined-row :
    (xs : List Tx) (k : ℕ) (vs os : List ℕ) (e : Entry) → pages (batch_of xs) ≡ 2 → k ≤ 2 → Holds (plan xs k vs os) →
    entry (commit_batch (take (512 * k) (plan_of xs).out) fresh number (replicate 2 9)).state 3 ≡ e → Holds (both xs k vs os 3 e)
joined-row xs k vs os e two few p h =
    let t = two_calls (batch_of xs) fresh number (replicate 2 9) (replicate 2 9) (replicate 1024 9) (omega (arith, length-replicate {A = ℕ} 1024 9)) in (
      t.answer_is ∙ p.0,
      t.verdicts_are ∙ p.1,
      t.order_is ∙ p.2,
      ap (λ s. entry s 3) (t.commits k p.0 (replicate 2 9) (omega (arith, length-replicate {A = ℕ} 2 9))).1 ∙ h,
    )

pub joined_cases : Hold joined_table
joined_cases = (
  joined-row crossing 1 _ _ _ two_pages.0 (omega arith) cases.1.1.1.1.1.1.1.0 settled_3.0,
  (joined-row writers 2 _ _ _ two_pages.1 (omega arith) cases.1.1.1.1.1.1.1.1.1.0 settled_3.1, tt),
)

-- some of the rows, by name
pub text_plain : Holds (text "68,400" (gives (pos 68400)))
text_plain = cases.0

pub text_no_comma : Holds (text "684" (refuses 18 0))
text_no_comma = cases.1.1.0

pub page-ticket7 : Holds (page ticket7 bytes7)
page-ticket7 = cases.1.1.1.1.0

pub room_25 : Holds (written (with_counts 25 25) (gives 0))
room_25 = cases.1.1.1.1.1.0

pub plan_clash : Holds (plan crossing 1 (2 ∷ 0 ∷ []) (1 ∷ 9 ∷ []))
plan_clash = cases.1.1.1.1.1.1.1.0

pub plan-reader : Holds (plan reader_first 2 (0 ∷ 0 ∷ []) (1 ∷ 0 ∷ []))
plan-reader = cases.1.1.1.1.1.1.1.1.0

pub commit-failing : Holds (commit failing 1 (3 ∷ 0 ∷ []) 4 (record { version = at number 1; value = pos 9 }))
commit-failing = cases.1.1.1.1.1.1.1.1.1.1.1.0

pub joined_clash : Holds (both crossing 1 (2 ∷ 0 ∷ []) (1 ∷ 9 ∷ []) 3 (record { version = at number 0; value = pos 2 }))
joined_clash = joined_cases.0
