-- Demand 2 for pages: the round trips, and what the check notices. Assumes nothing.
use Prim.Native.Nat.{ℕ, ◌+◌, ◌*◌, ◌/◌, ◌^◌, ◌<◌, ◌≤◌}
use native.Mathlib.Omega.{arith}
use mathlib.Core.Bool.{not}
use mathlib.Core.List.{List, [], ◌∷◌}
use mathlib.Core.Logic.{◌⊎◌, inl, inr, ⊎_elim}
use mathlib.Core.Path.{◌≡◌, refl, sym, ap, ◌∙◌}
use lib.ListN.{length, get_or, set, take, replicate, length-take}
use lib.Dec.{ltb}
use borrow.Author.Tests.{ltb-true, lt-ltb, not-false}
use Rattle.refusals.specs.Outcome.{Outcome, gives}
use Rattle.refusals.specs.Fault.{Fault, clear, fault, first}
use Rattle.refusals.proofs.Rows.{row_none, row-passed, append_none, judged-gives}
use Rattle.ledger.specs.declared.Transaction.{Transaction}
use Rattle.octets.specs.Bytes.{Small, weighed}
use Rattle.ledger.specs.Tx.{Tx, no_read, no_write, value_tx, padded, TransactionFits}
use Rattle.ledger.specs.Page.{count_rows, entry_rows, page_tx, page_of, page_fault, page_at, with_page}
use Rattle.ledger.specs.declared.Counts.{Counts}
use Rattle.ledger.specs.Services.{Taken, read_page, WrittenPage, index_row, write_rows, write_fault, write_page}
use Rattle.lists.specs.Search.{seek, first_in}
use Rattle.ledger.proofs.Back.{page_back, good_back, long_page}
use Rattle.ledger.proofs.Exact.{page_exact}
use Rattle.ledger.proofs.Faults as faults
use Rattle.ledger.proofs.OnPage as on
use Rattle.ledger.proofs.Noticed as noticed
use Rattle.octets.proofs.Numbers as numbers
use Rattle.ledger.proofs.Pages.{empty_good, good-counted}
use Rattle.ledger.proofs.Placed as place
use Rattle.ledger.proofs.Valued.{value-padded}

-- the counts of a transaction
abbrev counts : Tx → Counts
counts x = record { reads = length x.reads; writes = length x.writes }

-- a page that is taken has no fault, and one without a fault is taken
taken-good : (p : List ℕ) (c : Counts) → (read_page p).answer ≡ gives c → page_fault p ≡ clear
unfolding read_page
taken-good p c e = faults.taken_none p c (sym e)

good-taken : (p : List ℕ) → page_fault p ≡ clear → read_page p ≡ record { answer = gives (counts (page_tx p)); transaction = padded (page_tx p) }
unfolding padded
good-taken p e = sym (faults.read_taken p e)

-- the page without reads and writes holds none
empty_back :
    (ticket : ℕ) → ticket < 2 ^ 32 →
    page_tx (page_of (record { ticket = ticket; reads = []; writes = [] })) ≡ record { ticket = ticket; reads = []; writes = [] }
unfolding count_rows entry_rows first first_in seek
empty_back ticket h =
    (good_back (record { ticket = ticket; reads = []; writes = [] })
    (record { ticket = h; reads = λ i l. absurd (omega arith); writes = λ i l. absurd (omega arith) }) refl refl).1

-- ---- "Pages .. read back as written"

module _ (batch : List ℕ) (index : ℕ) (t : Transaction) where
  abbrev wrong : Fault
  wrong = write_fault t index (length batch / 512)

  -- a page that is written had no fault
  written-good : (write_page batch index t).answer ≡ gives 0 → wrong ≡ clear
  unfolding write_page
  written-good e = (judged-gives wrong 0 0 (sym e)).0

  -- no fault of the counts, of the entries, of the index
  split : wrong ≡ clear → (first (count_rows t.r t.w) ≡ clear) × (first (entry_rows (value_tx t)) ≡ clear) × (index < length batch / 512)
  unfolding write_rows
  split g =
      let a = append_none (count_rows t.r t.w) _ g in
      let b = append_none (entry_rows (value_tx t)) (index_row index (length batch / 512) ∷ []) a.1 in
      (a.0, b.0, ltb-true index (length batch / 512) (not-false (ltb index (length batch / 512)) (row_none _ _ b.1).0))

  -- what is written at a page index reads back from there as it was, up to the entries beyond the counts
  pub reads_back :
      TransactionFits t → (write_page batch index t).answer ≡ gives 0 →
      read_page (page_at (write_page batch index t).batch index) ≡ record { answer = gives (counts (value_tx t)); transaction = padded (value_tx t) }
  reads_back fits e =
      let g = written-good e in
      let parts = split g in
      let back = page_back t fits parts.0 parts.1 in
      let b = sym (ap (λ (w : WrittenPage). w.batch) (faults.write_done batch index t g)) in
      let p = ap (λ (l : List ℕ). page_at l index) b ∙ place.placed_here batch (page_of (value_tx t)) index (good-counted (page_of (value_tx t)) back.0).whole (omega (arith, parts.2)) in
      ap read_page p ∙ good-taken (page_of (value_tx t)) back.0 ∙ ap (λ (x : Tx). record { answer = gives (counts x); transaction = padded x }) back.1

  -- a page that is written has 512 bytes
  page_long : wrong ≡ clear → length (page_of (value_tx t)) ≡ 512
  unfolding value_tx
  page_long g =
      let n = faults.roomy t.r t.w (split g).0 in
      let r : length (take t.r t.reads) ≤ t.r = simp length-take (omega arith) in
      let w : length (take t.w t.writes) ≤ t.w = simp length-take (omega arith) in
      long_page (value_tx t) (record {
        few-reads = omega (arith, n.few-reads);
        few-writes = omega (arith, n.few-writes);
        room = omega (arith, n.room);
      })

  -- what the writer leaves: the batch as it was, or with that page in its place
  left :
      (f : Fault) → wrong ≡ f →
      ((write_page batch index t).batch ≡ batch)
      ⊎ ((wrong ≡ clear) × ((write_page batch index t).batch ≡ with_page batch index (page_of (value_tx t))))
  left clear g = inr (g, sym (ap (λ (w : WrittenPage). w.batch) (faults.write_done batch index t g)))
  left (fault n q) g = inl (sym (ap (λ (w : WrittenPage). w.batch) (faults.write-refused batch index t n q g)))

  inside : wrong ≡ clear → index * 512 + 512 ≤ length batch
  inside g = omega (arith, (split g).2)

  -- "every byte of the batch outside that page stays"
  pub outside :
      (k : ℕ) → (k < index * 512) ⊎ (index * 512 + 512 ≤ k) → get_or (write_page batch index t).batch k 0 ≡ get_or batch k 0
  outside k h =
      ⊎_elim
      (λ e. ap (λ (l : List ℕ). get_or l k 0) e)
      (λ d. ap (λ (l : List ℕ). get_or l k 0) d.1
      ∙ ⊎_elim
      (place.placed_before batch (page_of (value_tx t)) index (page_long d.0) (inside d.0) k)
      (place.placed_after batch (page_of (value_tx t)) index (page_long d.0) (inside d.0) k)
      h)
      (left wrong refl)

  -- and the batch is as long as it was
  pub length_stays : length (write_page batch index t).batch ≡ length batch
  length_stays =
      ⊎_elim
      (λ e. ap (λ (l : List ℕ). length l) e)
      (λ d. ap (λ (l : List ℕ). length l) d.1
      ∙ place.placed_long batch (page_of (value_tx t)) index (page_long d.0) (inside d.0))
      (left wrong refl)

-- "and one that is accepted is exactly what our writer would write"
pub accepted :
    (p : List ℕ) (c : Counts) → Small p → (read_page p).answer ≡ gives c →
    (batch : List ℕ) (index : ℕ) → index < length batch / 512 →
    write_page batch index (read_page p).transaction ≡ record { answer = gives 0; batch = with_page batch index p }
unfolding first
accepted p c small e batch index h =
    let g = taken-good p c e in
    let x : Tx = page_tx p in
    let s = faults.sound p g in
    let v = value-padded x in
    let lengths : first (count_rows (padded x).r (padded x).w) ≡ clear = unfold padded in (rw (on.count-reads p, on.count-writes p) s.head.counts) in
    let none : write_fault (padded x) index (length batch / 512) ≡ clear =
    faults.wrong_index batch index (padded x) lengths (ap (λ (y : Tx). first (entry_rows y)) v ∙ s.entries) ∙ row-passed (index_row index (length batch / 512)) [] (ap not (lt-ltb index (length batch / 512) h)) in
    ap (λ (t : Transaction). write_page batch index t) (ap (λ (k : Taken). k.transaction) (good-taken p g))
    ∙ sym (faults.write_done batch index (padded x) none)
    ∙ ap (λ (l : List ℕ). record { answer = gives 0; batch = with_page batch index l }) (ap page_of v ∙ page_exact p small g)

-- ---- what the check notices

-- "It is at most 32,967,930."
pub check_most : (p : List ℕ) → Small p → weighed p 508 ≤ 32967930
check_most = numbers.check_most

-- "A change of any one byte of the page is therefore noticed"
pub one_byte :
    (p : List ℕ) (c d : Counts) → Small p → (read_page p).answer ≡ gives c →
    (i b : ℕ) → i < 512 → b < 256 → (b ≡ get_or p i 0 → ⊥) → (read_page (set p i b)).answer ≡ gives d → ⊥
one_byte p c d small e i b h k n f = noticed.one_byte p small (taken-good p c e) i b h k n (taken-good (set p i b) d f)

-- "and so is an exchange of two unequal bytes within 0 to 507"
pub exchange :
    (p : List ℕ) (c d : Counts) → Small p → (read_page p).answer ≡ gives c →
    (i j : ℕ) → i < 508 → j < 508 → (get_or p i 0 ≡ get_or p j 0 → ⊥) →
    (read_page (set (set p i (get_or p j 0)) j (get_or p i 0))).answer ≡ gives d → ⊥
exchange p c d small e i j h k n f =
    noticed.exchange p small (taken-good p c e) i j h k n (taken-good (set (set p i (get_or p j 0)) j (get_or p i 0)) d f)

-- "A page with no reads and no writes is good."
pub empty_page :
    (ticket : ℕ) → ticket < 2 ^ 32 →
    read_page (page_of (record { ticket = ticket; reads = []; writes = [] })) ≡ record {
      answer = gives (record { reads = 0; writes = 0 });
      transaction = record { ticket = ticket; r = 0; w = 0; reads = replicate 32 no_read; writes = replicate 32 no_write };
    }
unfolding padded
empty_page ticket h =
    good-taken _ (empty_good ticket h)
    ∙ ap (λ (x : Tx). record { answer = gives (counts x); transaction = padded x }) (empty_back ticket h)
