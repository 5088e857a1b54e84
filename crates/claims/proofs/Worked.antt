-- What the program writes for the two worked inputs: computed, but for the checks of the pages and the keys that no page writes, which laws answer. Assumes nothing.
use Prim.Native.Nat.{ℕ, zero, suc, ◌+◌, ◌≤◌, ◌<◌}
use native.Mathlib.Nat.{add-zero, add-suc}
use native.Mathlib.Omega.{arith}
use mathlib.Core.Bool.{Bool}
use mathlib.Core.List.{List, [], ◌∷◌, ◌++◌, append-nil}
use mathlib.Core.Path.{◌≡◌, refl, sym, ap, ◌∙◌}
use lib.ListN.{length, get_or, take, replicate}
use lib.Dec.{T, not_T, ltb, ltb→lt}
use Rattle.refusals.specs.Outcome.{gives}
use Rattle.refusals.specs.Fault.{clear, rows_from}
use Rattle.refusals.specs.Fault.{first as first_of}
use Rattle.lists.specs.Search.{seek, first_in}
use Rattle.lists.specs.Members.{◌∈◌, all}
use Rattle.lists.specs.Tables.{flat, tab}
use Rattle.lists.specs.Ascii.{ascii}
use Rattle.lists.proofs.Membership.{all-out}
use Rattle.tonnage.specs.Text.{digits, width_in, width, text_of}
use Rattle.octets.specs.Bytes.{field, weighed, le}
use Rattle.ledger.specs.Tx.{Tx, keys_read, keys_written, reader, writer, floor_of}
use Rattle.ledger.specs.Page.{count_rows, entry_rows, page_tx, body_of, page_of}
use Rattle.ledger.specs.State.{State, never, keys, entry, store}
use Rattle.ledger.specs.Gate.{pages, tx_at}
use Rattle.ledger.specs.Commit.{passes, stamp, write}
use Rattle.ledger.proofs.Commits.{Kept, kept_self, kept_more, write_kept}
use Rattle.orders.specs.Chain.{joined, cyclic}
use Rattle.orders.specs.Admission.{admit}
use Rattle.orders.specs.Arrange.{lowest as lowestTicket, without, arrange, by_ticket, free, schedule}
use Rattle.planning.specs.Plan.{before, sequence, kept, verdict, order, plans}
use Rattle.report.specs.Listing.{header, place_text, page_line, state_line, key_line, listing}
use Rattle.report.specs.Program.{start_number, start, shown}
use Rattle.claims.specs.Cases.{batch_of}
use Rattle.claims.specs.Serial.{run}
use Rattle.claims.specs.Shown.{five, letter_batch, nine_lines, letter_lines}
use Rattle.planning.proofs.Words.{writes_key}
use Rattle.claims.proofs.Running.{on_pages, run-other}
use Rattle.claims.proofs.Shown.{clear_plan, shown-run}
use Rattle.claims.proofs.Opened.{start-keys, start-absent, good, later, shut, open_gate}

-- ---- keys above all that are written

module _ (input : List ℕ) (n : ℕ) where
  abbrev ran : ℕ → State → List ℕ → State
  ran p s os = run (tx_at input) n p (on_pages (tx_at input)) s os

  -- each of these pages writes keys below m
  abbrev all_low : ℕ → List ℕ → Bool
  all_low m os = all (λ i. all (λ k. ltb k m) (keys_written (tx_at input i))) os

  run-low : (p m : ℕ) (s : State) (os : List ℕ) (k : ℕ) → T (all_low m os) → m ≤ k → entry (ran p s os) k ≡ entry s k
  run-low p m s os k t h = run-other (tx_at input) n p s os k (λ u i. not_T (writer (tx_at input u) k) (high u i))
    where
      high : (u : ℕ) → u ∈ os → T (writer (tx_at input u) k) → ⊥
      high u i w =
          let low = all-out (λ i. all (λ k. ltb k m) (keys_written (tx_at input i))) os t i in
          let key = all-out (λ j. ltb j m) (keys_written (tx_at input u)) low ((writes_key (tx_at input u) k).0 w) in
          absurd (omega (arith, ltb→lt k m key))

  run-kept : (p : ℕ) (s : State) (os : List ℕ) → Kept s (ran p s os)
  unfolding run
  run-kept p s [] = kept_self s
  run-kept p s (i ∷ os) =
      let t = write (stamp n p) s (tx_at input i).writes in
      kept_more s t (ran (suc p) t os) (write_kept (stamp n p) s (tx_at input i).writes) (run-kept (suc p) t os)

-- where no line stands from m on
flat-rest : (f : ℕ → List ℕ) (m r : ℕ) → ((k : ℕ) → m ≤ k → k < m + r → f k ≡ []) → flat (m + r) f ≡ flat m f
unfolding flat
flat-rest f m zero h = rw add-zero
flat-rest f m (suc r) h =
    rw (add-suc m r, h (m + r) (omega arith) (omega arith), append-nil (flat (m + r) f)) (flat-rest f m r (λ k l u. h k l (omega arith)))

no_line : (s : State) (k : ℕ) → entry s k ≡ never → key_line s k ≡ []
unfolding key_line
no_line s k e = rw e

module _ (input : List ℕ) (k : ℕ) where
  abbrev after : State
  after = ran input start_number 0 start (take k (clear_plan input).order)

  -- the header, the lines of the pages, and those of the m lowest keys
  abbrev ahead : List ℕ → List ℕ
  ahead l =
      header start_number (pages input) k
      ++ (flat (pages input) (λ i. page_line (tx_at input i).ticket (get_or (clear_plan input).verdicts i 0) (place_text (clear_plan input).order k i)) ++ l)

  abbrev lines : ℕ → List ℕ
  lines m = ahead (flat m (key_line after))

  -- that is all, where no higher key is written
  shown-few :
      (m r : ℕ) → m + r ≡ 1024 → shut input ≡ clear → (clear_plan input).answer ≡ gives k → k ≤ 64 →
      T (all_low input start_number m (take k (clear_plan input).order)) → shown input start (replicate 65536 0) ≡ lines m
  unfolding listing
  shown-few m r e c a few t =
      let n : keys after ≡ m + r = (run-kept input start_number 0 start (take k (clear_plan input).order)).blocks ∙ start-keys ∙ sym e in
      shown-run input k c a few
      ∙ ap ahead
      (ap (λ (j : ℕ). flat j (key_line after)) n
      ∙ flat-rest (key_line after) m r
      (λ j h l. no_line after j (run-low input start_number 0 m start (take k (clear_plan input).order) j t h ∙ start-absent j (omega arith))))

-- ---- the worked inputs

-- what is computed: that the transactions are good, that no ticket or key is amiss, how many are kept, that they write keys below 10, and the text
record Sheet (xs : List Tx) (k : ℕ) (text : List ℕ) : Type 0 where
  sound : T (all good xs)
  clean : later (batch_of xs) ≡ clear
  count : (clear_plan (batch_of xs)).answer ≡ gives k
  below : T (all_low (batch_of xs) start_number 10 (take k (clear_plan (batch_of xs)).order))
  reads : lines (batch_of xs) k 10 ≡ text

from_sheet : (xs : List Tx) (k : ℕ) (text : List ℕ) → length xs ≤ 64 → k ≤ 64 → Sheet xs k text → shown (batch_of xs) start (replicate 65536 0) ≡ text
from_sheet xs k text h l s = shown-few (batch_of xs) k 10 1014 refl (open_gate xs s.sound h s.clean) s.count l s.below ∙ s.reads

sheets : Sheet five 3 nine_lines × Sheet letter_batch 2 letter_lines
unfolding start batch_of first_in seek first_of rows_from count_rows entry_rows floor_of page_of body_of weighed le flat tab page_tx field entry store passes write run
    joined cyclic admit lowestTicket without arrange by_ticket free schedule keys_read keys_written reader before sequence kept verdict order plans
    header place_text page_line state_line key_line digits width_in width text_of ascii
sheets = (
  record { sound = tt; clean = refl; count = refl; below = tt; reads = refl },
  record { sound = tt; clean = refl; count = refl; below = tt; reads = refl },
)

-- document 01's five pages: the whole output
pub nine_lines_lem : shown (batch_of five) start (replicate 65536 0) ≡ nine_lines
nine_lines_lem = from_sheet five 3 nine_lines (omega arith) (omega arith) sheets.0

-- the customer's letter: the correction is kept and shown
pub letter : shown (batch_of letter_batch) start (replicate 65536 0) ≡ letter_lines
letter = from_sheet letter_batch 2 letter_lines (omega arith) (omega arith) sheets.1
