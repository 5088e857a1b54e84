-- What the place of a refusal shows: from the rows of the table to the words of the request. Assumes nothing.
use mathlib.Core.Path.{◌≡◌, refl, ◌∙◌}
use mathlib.Core.Bool.{Bool, true}
use mathlib.Core.List.{List, [], ◌∷◌, ◌++◌}
use mathlib.Core.Logic.{⊎_elim}
use Prim.Native.Nat.{ℕ, ◌+◌, ◌*◌, ◌/◌, ◌%◌, ◌≤◌, ◌<◌}
use native.Mathlib.Nat.{zero-add}
use native.Mathlib.Omega.{arith}
use lib.ListN.{length, get_or, length-take}
use lib.Dec.{eqb, ltb, ltb→lt}
use borrow.Author.Tests.{ltb-true, ltb-false, eqb-true, eqb-false, not-true, not-false}
use Rattle.lists.specs.Search.{first_in, some_in}
use Rattle.lists.proofs.Searches.{from_on, holds_from, before_from}
use Rattle.refusals.specs.Fault.{clear, fault, first, in_turn}
use Rattle.refusals.proofs.Rows.{no_rows, row_cases, append_either, each_which, moved-some, first_given, given_allowed}
use Rattle.octets.specs.Bytes.{field, weighed}
use Rattle.ledger.specs.declared.Transaction.{Transaction}
use Rattle.ledger.specs.Tx.{Tx, value_tx}
use Rattle.ledger.specs.Page.{size, count_rows, head_rows, length_row, entry_rows, spare_row, whole_rows, page_rows, page_fault, page_tx, page_at}
use Rattle.ledger.specs.Services.{index_row, laid_rows, write_rows, write_fault}
use Rattle.ledger.specs.Gate.{pages, rows_at}
use Rattle.ledger.specs.Byte.{Lowest, CountByte, many_reads, many_writes, no_room, EntryByte, read-key, read_version, write-key, write-kind, PageByte, no_page, check, mark, third, counts, entries, spare, WriteByte, written-counts, written-entries, no_index, BatchByte}
use Rattle.ledger.proofs.OnPage.{count-reads, count-writes}
use Rattle.ledger.proofs.Faults.{roomy, head_fault, head-counted, by_whole}
use Rattle.ledger.proofs.Gated.{page_long, at-good}

-- the row of a search
lowest-shown : (bad : ℕ → Bool) (from to : ℕ) (place : ℕ → ℕ) → some_in bad from to ≡ true → Lowest bad from to place (place (first_in bad from to))
lowest-shown bad from to place e =
    let h = ltb-true (first_in bad from to) to e in
    record {
      entry = first_in bad from to;
      behind = from_on bad from to;
      within = h;
      shown = refl;
      is_bad = holds_from bad from to h;
      earlier = λ j l m. before_from bad from to j l m;
    }

-- 4 and 5
pub counts-shown : (r w : ℕ) {n q : ℕ} → first (count_rows r w) ≡ fault n q → CountByte r w n q
unfolding count_rows
counts-shown r w =
    row_cases _ _ (CountByte r w) (λ h. many_reads (ltb-true 32 r h))
    (λ few.
    row_cases _ _ (CountByte r w) (λ h. many_writes (ltb-false 32 r few) (ltb-true 32 w h))
    (λ _. row_cases _ _ (CountByte r w) (λ h. no_room (ltb-true 500 (size r w) h)) (λ _ f. absurd (no_rows f))))

-- 6 to 9
pub entries-shown : (x : Tx) {n q : ℕ} → first (entry_rows x) ≡ fault n q → EntryByte x n q
unfolding entry_rows
entries-shown x =
    row_cases _ _ (EntryByte x) (λ h. read-key (lowest-shown _ 0 _ _ h))
    (λ _.
    row_cases _ _ (EntryByte x) (λ h. read_version (lowest-shown _ 0 _ _ h))
    (λ _.
    row_cases _ _ (EntryByte x) (λ h. write-key (lowest-shown _ 0 _ _ h))
    (λ _. row_cases _ _ (EntryByte x) (λ h. write-kind (lowest-shown _ 0 _ _ h)) (λ _ f. absurd (no_rows f)))))

-- the byte of a count is one of the page
count_below : {r w n q : ℕ} → CountByte r w n q → q < 512
count_below (many_reads h) = omega arith
count_below (many_writes h k) = omega arith
count_below (no_room h) = omega arith

-- an entry that has room on a page lies on it
entry_below : {x : Tx} {n q : ℕ} → size (length x.reads) (length x.writes) ≤ 500 → EntryByte x n q → q < 512
entry_below room (read-key l) = omega (arith, l.within, l.shown)
entry_below room (read_version l) = omega (arith, l.within, l.shown)
entry_below room (write-key l) = omega (arith, l.within, l.shown)
entry_below room (write-kind l) = omega (arith, l.within, l.shown)

-- a transaction of good counts has room for its entries
value_room : (t : Transaction) → first (count_rows t.r t.w) ≡ clear → size (length (value_tx t).reads) (length (value_tx t).writes) ≤ 500
unfolding value_tx
value_room t e = omega (arith, (roomy t.r t.w e).room, length-take t.r t.reads, length-take t.w t.writes)

module _ (p : List ℕ) {n q : ℕ} where
  -- 1 to 5
  head-shown : head_fault p ≡ fault n q → PageByte p n q
  unfolding head_rows
  head-shown =
      row_cases _ _ (PageByte p) (λ h. no_page (eqb-false _ _ (not-true (eqb (length p) 512) h)))
      (λ _.
      row_cases _ _ (PageByte p) (λ h. check (eqb-false _ _ (not-true (eqb (weighed p 508) (field p 508 4)) h)))
      (λ _.
      row_cases _ _ (PageByte p) (λ h. mark (eqb-false _ _ (not-true (eqb (get_or p 0 0) 0x54) h)))
      (λ m.
      row_cases _ _ (PageByte p)
      (λ h. third (eqb-true _ _ (not-false (eqb (get_or p 0 0) 0x54) m)) (eqb-false _ _ (not-true (eqb (get_or p 3 0) 0) h)))
      (λ _ e. counts (counts-shown _ _ e)))))

  head_below : head_fault p ≡ fault n q → q < 512
  unfolding head_rows count_rows
  head_below e = ltb→lt q 512 (given_allowed (λ _ i. ltb i 512) ((first_given n q _).0 e) tt)

  -- 6 to 10, behind a head with no fault
  rest : head_fault p ≡ clear → first (entry_rows (page_tx p) ++ (spare_row p ∷ [])) ≡ fault n q → PageByte p n q × (q < 512)
  rest e f =
      let g = head-counted p e in
      ⊎_elim {C = PageByte p n q × (q < 512)}
      (λ h. let b = entries-shown _ h in (entries b, entry_below (omega (arith, g.room, count-reads p, count-writes p)) b))
      (λ h.
      row_cases _ _ (λ m i. PageByte p m i × (i < 512))
      (λ c. let l = lowest-shown _ _ _ (λ i. i) c in (spare l, omega (arith, l.within)))
      (λ _ g. absurd (no_rows g))
      h.1)
      (append_either (entry_rows (page_tx p)) (spare_row p ∷ []) f)

  -- a refusal of a page: what its place shows, and that it is a byte of the page
  pub page-shown : page_fault p ≡ fault n q → PageByte p n q × (q < 512)
  unfolding page_rows whole_rows
  page-shown e =
      ⊎_elim {C = PageByte p n q × (q < 512)}
      (λ h. (head-shown h, head_below h))
      (λ h. rest h.0 h.1)
      (append_either (length_row p ∷ head_rows p) (entry_rows (page_tx p) ++ (spare_row p ∷ [])) e)

-- a refusal of a transaction: the same
pub write-shown : (t : Transaction) (index pages : ℕ) {n q : ℕ} → write_fault t index pages ≡ fault n q → WriteByte t n q × (q < 512)
unfolding write_rows
write-shown t index pages {n} {q} e =
    ⊎_elim {C = WriteByte t n q × (q < 512)}
    (λ h. let b = counts-shown t.r t.w h in (written-counts b, count_below b))
    (λ h.
    ⊎_elim {C = WriteByte t n q × (q < 512)}
    (λ f. let b = entries-shown (value_tx t) f in (written-entries b, entry_below (value_room t h.0) b))
    (λ f. row_cases _ _ (λ m i. WriteByte t m i × (i < 512)) (λ _. (no_index, omega arith)) (λ _ g. absurd (no_rows g)) f.1)
    (append_either (entry_rows (value_tx t)) (index_row index pages ∷ []) h.1))
    (append_either (count_rows t.r t.w) (laid_rows (value_tx t) index pages) e)

-- a refusal of the pages of a batch: the page and the offset that its place is made of
pub pages-shown : (batch : List ℕ) {n q : ℕ} → length batch ≡ pages batch * 512 → first (in_turn (pages batch) (rows_at batch)) ≡ fault n q → BatchByte batch n q
pages-shown batch {n} {q} long e =
    let w = each_which (rows_at batch) (pages batch) e in
    let i = w.index in
    let m = moved-some (λ o. i * 512 + o) (whole_rows (page_at batch i)) (rw zero-add at w.given) in
    let s = page-shown (page_at batch i) (by_whole _ (page_long batch i (omega (arith, w.within))) ∙ m.1) in
    let page : q / 512 ≡ i = omega (arith, m.2, s.1) in
    let offset : q % 512 ≡ m.0 = omega (arith, m.2, s.1) in
    record {
      within = omega (arith, page, w.within);
      earlier = λ j l. at-good batch j (omega (arith, page, w.within)) (rw zero-add at (w.earlier j (omega (arith, page))));
      shown = rw (page, offset) s.0;
    }
