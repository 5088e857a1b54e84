-- The case of the customer's letter, with the old weight in the ledger: both ways round of the tickets. Assumes nothing.
use Prim.Native.Nat.{ℕ, ◌*◌, ◌≤◌}
use native.Mathlib.Omega.{arith}
use mathlib.Core.Bool.{false}
use mathlib.Core.List.{List, [], ◌∷◌}
use mathlib.Core.Path.{◌≡◌, refl, sym, ap, ◌∙◌}
use lib.ListN.{length, take, replicate}
use lib.Dec.{T}
use Rattle.lists.specs.Tables.{flat, tab}
use Rattle.lists.specs.Search.{seek, first_in}
use Rattle.lists.specs.Members.{all}
use Rattle.refusals.specs.Outcome.{gives}
use Rattle.refusals.specs.Fault.{clear, first, rows_from}
use Rattle.octets.specs.Bytes.{field, weighed, le}
use Rattle.orders.specs.Chain.{joined, cyclic}
use Rattle.orders.specs.Admission.{admit}
use Rattle.orders.specs.Arrange.{lowest as lowestTicket, without, arrange, by_ticket, free, schedule}
use Rattle.ledger.specs.Tx.{Tx, keys_read, keys_written, reader, floor_of}
use Rattle.ledger.specs.Page.{count_rows, entry_rows, page_tx, body_of, page_of}
use Rattle.ledger.specs.declared.Entry.{Entry}
use Rattle.ledger.specs.State.{State, never, entry, store, state_rows, versions}
use Rattle.ledger.specs.Gate.{pages, tx_at}
use Rattle.ledger.specs.Commit.{passes, write, Commits, commit_batch}
use Rattle.planning.specs.Plan.{before, sequence, kept, verdict, order, gathered, Plans, plans, short}
use Rattle.planning.proofs.Opened.{plan_open}
use Rattle.claims.specs.Cases.{number, batch_of}
use Rattle.claims.specs.Serial.{run}
use Rattle.claims.specs.Letter.{booked, correction, plain_correction, settlement, closing}
use Rattle.claims.specs.Letter.{letter_plan, letter_commit, Becomes, by, Letter}
use Rattle.claims.proofs.Running.{on_pages}
use Rattle.planning.proofs.Kept.{sequence-perm}
use Rattle.claims.proofs.Demand3.{third}
use Rattle.claims.proofs.Opened.{good, after, open_over}

-- where the gate lets a batch through: what plan leaves, and the state after the writes of some pages
abbrev made : List Tx → Plans
made xs =
    plans (batch_of xs) (versions booked) (sequence (versions booked) (tx_at (batch_of xs)) (pages (batch_of xs)))
    (replicate 2 9) (replicate 2 9) (replicate 1024 9)

abbrev ran : List Tx → List ℕ → State
ran xs os = run (tx_at (batch_of xs)) number 0 (on_pages (tx_at (batch_of xs))) booked os

-- what is computed of a batch
record Sheet (xs : List Tx) (k : ℕ) (vs os : List ℕ) (weight sum : Entry) : Type 0 where
  sound : T (all good xs)
  clean : after (batch_of xs) 8 ≡ clear
  room : short (batch_of xs) (replicate 2 9) (replicate 2 9) (replicate 1024 9) ≡ false
  count : (made xs).answer ≡ gives k
  verdicts_are : (made xs).verdicts ≡ vs
  order_is : take k (made xs).order ≡ os
  weight_is : entry (ran xs os) 4 ≡ weight
  sum_is : entry (ran xs os) 5 ≡ sum

booked_rows : first (state_rows booked number) ≡ clear
unfolding first rows_from state_rows entry
booked_rows = refl

from_sheet :
    (xs : List Tx) (k : ℕ) (vs os : List ℕ) (weight sum : Entry) →
    length xs ≤ 64 → k ≤ 2 → length os ≡ k → Sheet xs k vs os weight sum → Becomes xs k vs os weight sum
from_sheet xs k vs os weight sum few two long s =
    let b = batch_of xs in
    let c =
    open_over xs booked number (replicate 2 9) (replicate 2 9) (replicate 1024 9) s.sound few booked_rows s.room
    s.clean in
    let e : letter_plan xs ≡ made xs = sym (plan_open b booked number (replicate 2 9) (replicate 2 9) (replicate 1024 9) c) in
    let t =
    third b booked number (sequence (versions booked) (tx_at b) (pages b)) (replicate 2 9) (replicate 2 9) (replicate 1024 9) k
    (sequence-perm (versions booked) (tx_at b) (pages b)) c s.count in
    let h = ap (λ (l : List ℕ). length l) s.order_is in
    let done : letter_commit xs k ≡ commit_batch (gathered b (take k (made xs).order)) booked number (replicate 2 9) =
    ap (λ (q : Plans). commit_batch (take (512 * k) q.out) booked number (replicate 2 9)) e
    ∙ ap (λ (l : List ℕ). commit_batch l booked number (replicate 2 9)) t.out-pages in
    let runs = done ∙ t.third.commits (on_pages (tx_at b)) (λ i m. refl) (replicate 2 9) (omega arith) in
    let state = ap (λ (q : Commits). q.state) runs ∙ ap (ran xs) s.order_is in
    record {
      count = ap (λ (q : Plans). q.answer) e ∙ s.count;
      verdicts_are = ap (λ (q : Plans). q.verdicts) e ∙ s.verdicts_are;
      order_is = ap (λ (q : Plans). take k q.order) e ∙ s.order_is;
      none_fails = ap (λ (q : Commits). q.answer) runs ∙ ap gives (h ∙ long);
      weight_is = ap (λ (u : State). entry u 4) state ∙ s.weight_is;
      sum_is = ap (λ (u : State). entry u 5) state ∙ s.sum_is;
    }

sheets :
    Sheet (correction 4 ∷ settlement 9 ∷ []) 2 (0 ∷ 0 ∷ []) (1 ∷ 0 ∷ []) (by 1 68400) (by 0 684000)
    × Sheet (correction 9 ∷ settlement 4 ∷ []) 2 (0 ∷ 0 ∷ []) (1 ∷ 0 ∷ []) (by 1 68400) (by 0 684000)
    × Sheet (correction 4 ∷ closing 9 ∷ []) 1 (0 ∷ 2 ∷ []) (0 ∷ []) (by 0 68400) never
    × Sheet (correction 9 ∷ closing 4 ∷ []) 1 (2 ∷ 0 ∷ []) (1 ∷ []) (by 0 0) (by 0 684000)
    × Sheet (plain_correction 4 ∷ closing 9 ∷ []) 2 (0 ∷ 0 ∷ []) (1 ∷ 0 ∷ []) (by 1 68400) (by 0 684000)
    × Sheet (plain_correction 9 ∷ closing 4 ∷ []) 2 (0 ∷ 0 ∷ []) (1 ∷ 0 ∷ []) (by 1 68400) (by 0 684000)
unfolding batch_of first_in seek first rows_from count_rows entry_rows floor_of page_of body_of weighed le flat tab page_tx field entry
    store passes write run joined cyclic admit lowestTicket without arrange by_ticket free schedule keys_read keys_written
    reader before sequence kept verdict order plans
sheets = (
  record { sound = tt; clean = refl; room = refl; count = refl; verdicts_are = refl; order_is = refl; weight_is = refl; sum_is = refl },
  record { sound = tt; clean = refl; room = refl; count = refl; verdicts_are = refl; order_is = refl; weight_is = refl; sum_is = refl },
  record { sound = tt; clean = refl; room = refl; count = refl; verdicts_are = refl; order_is = refl; weight_is = refl; sum_is = refl },
  record { sound = tt; clean = refl; room = refl; count = refl; verdicts_are = refl; order_is = refl; weight_is = refl; sum_is = refl },
  record { sound = tt; clean = refl; room = refl; count = refl; verdicts_are = refl; order_is = refl; weight_is = refl; sum_is = refl },
  record { sound = tt; clean = refl; room = refl; count = refl; verdicts_are = refl; order_is = refl; weight_is = refl; sum_is = refl },
)

-- both ways round of the tickets: what is kept, in which order, and what stands in the ledger then
pub letter_cases : Letter
letter_cases = record {
  correction_lower = from_sheet _ 2 _ _ _ _ (omega arith) (omega arith) refl sheets.0;
  correction_higher = from_sheet _ 2 _ _ _ _ (omega arith) (omega arith) refl sheets.1;
  closing_higher = from_sheet _ 1 _ _ _ _ (omega arith) (omega arith) refl sheets.2;
  closing_lower = from_sheet _ 1 _ _ _ _ (omega arith) (omega arith) refl sheets.3;
  plain_lower = from_sheet _ 2 _ _ _ _ (omega arith) (omega arith) refl sheets.4;
  plain_higher = from_sheet _ 2 _ _ _ _ (omega arith) (omega arith) refl sheets.5;
}
