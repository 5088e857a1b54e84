-- The clerk's case, batch by batch: each computed on the state that the one before left. Assumes nothing.
use Prim.Native.Nat.{ℕ, ◌*◌, ◌≤◌}
use native.Mathlib.Omega.{arith}
use mathlib.Core.Bool.{false}
use mathlib.Core.List.{List, [], ◌∷◌}
use mathlib.Core.Path.{◌≡◌, refl, sym, ap, ◌∙◌}
use lib.ListN.{length, take, replicate}
use lib.Dec.{T}
use Rattle.lists.specs.Tables.{flat, tab}
use Rattle.lists.specs.Search.{seek, first_in}
use Rattle.lists.specs.Members.{all}
use Rattle.refusals.specs.Outcome.{gives}
use Rattle.refusals.specs.Fault.{clear, first, rows_from, moved}
use Rattle.octets.specs.Bytes.{field, weighed, le}
use Rattle.orders.specs.Chain.{joined, cyclic}
use Rattle.orders.specs.Admission.{admit}
use Rattle.orders.specs.Arrange.{lowest as lowestTicket, without, arrange, by_ticket, free, schedule}
use Rattle.ledger.specs.Tx.{Tx, keys_read, keys_written, reader, floor_of}
use Rattle.ledger.specs.Page.{count_rows, entry_rows, head_rows, whole_rows, page_tx, body_of, page_of}
use Rattle.ledger.specs.State.{State, keys, entry, store, state_rows, versions}
use Rattle.ledger.specs.Gate.{pages, tx_at, txs, front_rows, pages_rows, gate_rows}
use Rattle.ledger.specs.Commit.{passes, write, after_page, commit, verdicts, passed, commit_batch}
use Rattle.planning.specs.Plan.{before, sequence, kept, verdict, order, Plans, plans, short}
use Rattle.planning.specs.Joined.{plan_and_commit}
use Rattle.planning.proofs.Opened.{plan_open}
use Rattle.claims.specs.Cases.{fresh, batch_of}
use Rattle.claims.specs.Serial.{run}
use Rattle.claims.specs.Clerk.{lot, opening, closing, reopening, call, opened, closed, Clerk}
use Rattle.claims.proofs.Running.{on_pages}
use Rattle.claims.proofs.Joined.{joined_3}
use Rattle.claims.proofs.Opened.{good, after, open_over}

-- ---- one call

-- an out batch of just the length, and what plan leaves where the gate lets the batch through
abbrev room : List Tx → List ℕ
room xs = replicate (512 * pages (batch_of xs)) 0

abbrev made : List Tx → State → Plans
made xs s = plans (batch_of xs) (versions s) (sequence (versions s) (tx_at (batch_of xs)) (pages (batch_of xs))) (replicate 2 9) (replicate 2 9) (room xs)

-- what is computed of it: the kept count, the verdicts, the order, and the state t that is left
record Sheet (xs : List Tx) (s : State) (n k : ℕ) (vs os : List ℕ) (t : State) : Type 0 where
  sound : T (all good xs)
  state-good : first (state_rows s n) ≡ clear
  clean : after (batch_of xs) (keys s) ≡ clear
  enough : short (batch_of xs) (replicate 2 9) (replicate 2 9) (room xs) ≡ false
  count : (made xs s).answer ≡ gives k
  verdicts_are : (made xs s).verdicts ≡ vs
  order_is : take k (made xs s).order ≡ os
  state_is : run (tx_at (batch_of xs)) n 0 (on_pages (tx_at (batch_of xs))) s os ≡ t

record Answered (xs : List Tx) (s : State) (n k : ℕ) (vs : List ℕ) (t : State) : Type 0 where
  count : (call xs s n).answer ≡ gives k
  verdicts_are : (call xs s n).verdicts ≡ vs
  state_is : (call xs s n).state ≡ t

answered : (xs : List Tx) (s : State) (n k : ℕ) (vs os : List ℕ) (t : State) → length xs ≤ 64 → Sheet xs s n k vs os t → Answered xs s n k vs t
unfolding plan_and_commit
answered xs s n k vs os t few h =
    let b = batch_of xs in
    let c = open_over xs s n (replicate 2 9) (replicate 2 9) (room xs) h.sound few h.state-good h.enough h.clean in
    let e = sym (plan_open b s n (replicate 2 9) (replicate 2 9) (room xs) c) in
    let count = ap (λ (p : Plans). p.answer) e ∙ h.count in
    record {
      count = count;
      verdicts_are = ap (λ (p : Plans). p.verdicts) e ∙ h.verdicts_are;
      state_is =
          (joined_3 b s n (replicate 2 9) (replicate 2 9) k count).commits (on_pages (tx_at b)) (λ i m. refl)
          ∙ ap (run (tx_at b) n 0 (on_pages (tx_at b)) s) (ap (λ (p : Plans). take k p.order) e ∙ h.order_is)
          ∙ h.state_is;
    }

-- ---- the three batches

abbrev first-left : State
first-left = store fresh 3 (lot 1 0 68400)

abbrev second_left : State
second_left = store fresh 3 (lot 2 32768 0)

abbrev third-left : State
third-left = store fresh 3 (lot 3 0 70000)

sheets :
    Sheet opening fresh 1 1 (0 ∷ 9 ∷ []) (0 ∷ []) first-left
    × Sheet closing first-left 2 1 (0 ∷ 9 ∷ []) (0 ∷ []) second_left
    × Sheet reopening second_left 3 1 (1 ∷ 0 ∷ []) (1 ∷ []) third-left
unfolding batch_of first_in seek first rows_from count_rows entry_rows floor_of page_of body_of weighed le flat tab page_tx field entry
    store state_rows passes write run joined cyclic admit lowestTicket without arrange by_ticket free schedule keys_read keys_written
    reader before sequence kept verdict order plans
sheets = (
  record { sound = tt; state-good = refl; clean = refl; enough = refl; count = refl; verdicts_are = refl; order_is = refl; state_is = refl },
  record { sound = tt; state-good = refl; clean = refl; enough = refl; count = refl; verdicts_are = refl; order_is = refl; state_is = refl },
  record { sound = tt; state-good = refl; clean = refl; enough = refl; count = refl; verdicts_are = refl; order_is = refl; state_is = refl },
)

first-call : Answered opening fresh 1 1 (0 ∷ 9 ∷ []) first-left
first-call = answered opening fresh 1 1 _ _ _ (omega arith) sheets.0

second_call : Answered closing opened.state 2 1 (0 ∷ 9 ∷ []) second_left
second_call = rw first-call.state_is (answered closing first-left 2 1 _ _ _ (omega arith) sheets.1)

third-call : Answered reopening closed.state 3 1 (1 ∷ 0 ∷ []) third-left
third-call = rw second_call.state_is (answered reopening second_left 3 1 _ _ _ (omega arith) sheets.2)

-- the lot after each of them
lots : (entry first-left 3 ≡ lot 1 0 68400) × (entry second_left 3 ≡ lot 2 32768 0) × (entry third-left 3 ≡ lot 3 0 70000)
unfolding entry store
lots = (refl, refl, refl)

-- the pages of batch 3, committed as they came
as_they_came : (commit_batch (batch_of reopening) second_left 3 (replicate 2 9)).verdicts ≡ 3 ∷ 0 ∷ []
unfolding first rows_from moved first_in seek count_rows entry_rows floor_of page_of body_of weighed le flat tab whole_rows head_rows page_tx field
    batch_of gate_rows front_rows state_rows pages_rows txs entry store passes write after_page commit verdicts passed commit_batch
as_they_came = refl

pub clerk : Clerk
clerk = record {
  opened-count = first-call.count;
  opened-lot = ap (λ (s : State). entry s 3) first-call.state_is ∙ lots.0;
  closed-count = second_call.count;
  closed-lot = ap (λ (s : State). entry s 3) second_call.state_is ∙ lots.1;
  reopened-count = third-call.count;
  reopened-verdicts = third-call.verdicts_are;
  reopened-lot = ap (λ (s : State). entry s 3) third-call.state_is ∙ lots.2;
  fails-check = ap (λ (s : State). (commit_batch (batch_of reopening) s 3 (replicate 2 9)).verdicts) second_call.state_is ∙ as_they_came;
}
