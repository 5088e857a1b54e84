-- The table of a page: which fault is the first, and what it says that there is none. Assumes nothing.
use mathlib.Core.Path.{◌≡◌, refl, ◌∙◌}
use mathlib.Core.Bool.{Bool, true, false, ◌||◌, ◌&&◌, true≢false, false≢true}
use mathlib.Core.List.{List, [], ◌∷◌, ◌++◌}
use Prim.Native.Nat.{ℕ, ◌+◌, ◌/◌, ◌≤◌}
use lib.ListN.{length, get_or}
use lib.Dec.{eqb}
use borrow.Author.Tests.{ltb-false, eqb-true, not-false, eq-eqb, ne_eqb}
use Rattle.lists.specs.Search.{some_in}
use Rattle.refusals.specs.Outcome.{gives, refuses}
use Rattle.refusals.specs.Fault.{Fault, clear, fault, first}
use Rattle.std.specs.Prelude.{Ok}
use Rattle.refusals.proofs.Rows.{row_none, row-passed, append-clear, append-fault, append_none, judged-gives, judged-refuses}
use lib.Seq.{sets}
use Rattle.octets.specs.Bytes.{field, le, weighed, set?}
use Rattle.ledger.specs.Tx.{value_tx, padded}
use Rattle.ledger.specs.Page.{read_count, write_count, size, count_rows, entry_rows, head_rows, length_row, spare_row, whole_rows, page_rows, page_fault, page_tx, page_of, with_page}
use Rattle.ledger.specs.Inner.{Counted, write_laid}
use Rattle.ledger.specs.declared.Transaction.{Transaction}
use Rattle.ledger.specs.declared.Counts.{Counts}
use Rattle.ledger.specs.Services.{no_transaction, taken, check_page, read_page, index_row, laid_rows, write_rows, write_fault, write_page}

-- ---- tests

pub or_none : (a b : Bool) → (a || b) ≡ false → (a ≡ false) × (b ≡ false)
or_none true b e = absurd (true≢false e)
or_none false b e = (refl, e)

pub and_both : (a b : Bool) → (a && b) ≡ true → (a ≡ true) × (b ≡ true)
and_both true b e = (refl, e)
and_both false b e = absurd (false≢true e)

-- ---- 4 and 5

-- counts with no fault
pub record Roomy (r w : ℕ) : Type 0 where
  pub few-reads : r ≤ 32
  pub few-writes : w ≤ 32
  pub room : size r w ≤ 500

pub roomy : (r w : ℕ) → first (count_rows r w) ≡ clear → Roomy r w
unfolding count_rows
roomy r w e =
    let reads = row_none _ _ e in
    let writes = row_none _ _ reads.1 in
    record { few-reads = ltb-false 32 r reads.0; few-writes = ltb-false 32 w writes.0; room = ltb-false 500 (size r w) (row_none _ _ writes.1).0 }

-- ---- 1 to 5

-- a head with no fault
pub record Headed (p : List ℕ) : Type 0 where
  pub long : length p ≡ 512
  pub sum : weighed p 508 ≡ field p 508 4
  pub mark : get_or p 0 0 ≡ 0x54
  pub three : get_or p 3 0 ≡ 0
  pub counts : first (count_rows (read_count p) (write_count p)) ≡ clear

-- its rows
abbrev pub head_fault : List ℕ → Fault
head_fault p = first (length_row p ∷ head_rows p)

pub headed : (p : List ℕ) → head_fault p ≡ clear → Headed p
unfolding head_rows
headed p e =
    let one = row_none _ _ e in
    let two = row_none _ _ one.1 in
    let mark = row_none _ _ two.1 in
    let three = row_none _ _ mark.1 in
    record {
      long = eqb-true _ _ (not-false (eqb (length p) 512) one.0);
      sum = eqb-true _ _ (not-false (eqb (weighed p 508) (field p 508 4)) two.0);
      mark = eqb-true _ _ (not-false (eqb (get_or p 0 0) 0x54) mark.0);
      three = eqb-true _ _ (not-false (eqb (get_or p 3 0) 0) three.0);
      counts = three.1;
    }

pub head-counted : (p : List ℕ) → head_fault p ≡ clear → Counted p
head-counted p e =
    let g = headed p e in
    let n = roomy _ _ g.counts in
    record { whole = g.long; few-reads = n.few-reads; few-writes = n.few-writes; room = n.room }

-- the first of its faults
module _ (p : List ℕ) where
  pub is_one : (length p ≡ 512 → ⊥) → fault 1 0 ≡ head_fault p
  unfolding first
  is_one h = rw (ne_eqb _ _ h)

  module _ (long : length p ≡ 512) where
    pub is_two : (weighed p 508 ≡ field p 508 4 → ⊥) → fault 2 508 ≡ head_fault p
    unfolding head_rows first
    is_two h = rw (eq-eqb _ _ long, ne_eqb _ _ h)

    module _ (sum : weighed p 508 ≡ field p 508 4) where
      pub is_mark : (get_or p 0 0 ≡ 0x54 → ⊥) → fault 3 0 ≡ head_fault p
      unfolding head_rows first
      is_mark h = rw (eq-eqb _ _ long, eq-eqb _ _ sum, ne_eqb _ _ h)

      module _ (mark : get_or p 0 0 ≡ 0x54) where
        pub is_three : (get_or p 3 0 ≡ 0 → ⊥) → fault 3 3 ≡ head_fault p
        unfolding head_rows first
        is_three h = rw (eq-eqb _ _ long, eq-eqb _ _ sum, eq-eqb _ _ mark, ne_eqb _ _ h)

        pub is_counts : get_or p 3 0 ≡ 0 → first (count_rows (read_count p) (write_count p)) ≡ head_fault p
        unfolding head_rows first
        is_counts h = rw (eq-eqb _ _ long, eq-eqb _ _ sum, eq-eqb _ _ mark, eq-eqb _ _ h)

-- ---- 1 to 10

-- where the spare bytes begin
abbrev pub spare_from : List ℕ → ℕ
spare_from p = 8 + size (read_count p) (write_count p)

-- a page with no fault
pub record Sound (p : List ℕ) : Type 0 where
  pub head : Headed p
  pub entries : first (entry_rows (page_tx p)) ≡ clear
  pub spare : some_in (set? p) (spare_from p) 508 ≡ false

module _ (p : List ℕ) where
  pub by-head : {n q : ℕ} → head_fault p ≡ fault n q → page_fault p ≡ fault n q
  unfolding page_rows whole_rows
  by-head e = append-fault (length_row p ∷ head_rows p) _ e

  pub by_entries : {n q : ℕ} → head_fault p ≡ clear → first (entry_rows (page_tx p)) ≡ fault n q → page_fault p ≡ fault n q
  unfolding page_rows whole_rows
  by_entries e h = append-clear (length_row p ∷ head_rows p) _ e ∙ append-fault (entry_rows (page_tx p)) _ h

  pub by-spare : head_fault p ≡ clear → first (entry_rows (page_tx p)) ≡ clear → page_fault p ≡ first (spare_row p ∷ [])
  unfolding page_rows whole_rows
  by-spare e h = append-clear (length_row p ∷ head_rows p) _ e ∙ append-clear (entry_rows (page_tx p)) _ h

  pub sound : page_fault p ≡ clear → Sound p
  unfolding page_rows whole_rows
  sound e =
      let head = append_none (length_row p ∷ head_rows p) (entry_rows (page_tx p) ++ (spare_row p ∷ [])) e in
      let rest = append_none (entry_rows (page_tx p)) (spare_row p ∷ []) head.1 in
      record { head = headed p head.0; entries = rest.0; spare = (row_none (spare_row p) [] rest.1).0 }

  -- 2 to 10 alone, of a page that has its length
  pub by_whole : length p ≡ 512 → page_fault p ≡ first (whole_rows p)
  unfolding page_rows
  by_whole l = row-passed (length_row p) (whole_rows p) (rw l)

  pub good-whole : page_fault p ≡ clear → first (whole_rows p) ≡ clear
  unfolding page_rows
  good-whole e = (row_none (length_row p) (whole_rows p) e).1

  -- what the check answers
  pub check-refused : (n q : ℕ) → page_fault p ≡ fault n q → refuses n q ≡ check_page p
  unfolding check_page
  check-refused n q e = rw e

  pub check-taken : (x : Counts) → x ≡ record { reads = length (page_tx p).reads; writes = length (page_tx p).writes } → page_fault p ≡ clear
      → gives x ≡ check_page p
  unfolding check_page
  check-taken x is e = rw (e, is)

  -- what the answer of the check says of the page
  pub taken_none : (x : Counts) → gives x ≡ check_page p → page_fault p ≡ clear
  unfolding check_page
  taken_none x e = (judged-gives _ _ _ e).0

  pub refused-some : (n q : ℕ) → refuses n q ≡ check_page p → page_fault p ≡ fault n q
  unfolding check_page
  refused-some n q e = judged-refuses _ _ _ _ e

  -- what reading it gives
  pub read_taken : page_fault p ≡ clear → taken (Ok (padded (page_tx p))) ≡ read_page p
  unfolding read_page check_page padded
  read_taken e = rw e

  pub read-refused : (n q : ℕ) → page_fault p ≡ fault n q → record { answer = refuses n q; transaction = no_transaction } ≡ read_page p
  unfolding read_page check_page
  read-refused n q e = rw e

-- ---- 4 to 9, then 17

module _ (batch : List ℕ) (index : ℕ) (t : Transaction) where
  -- the fault of a write
  abbrev pub wrong : Fault
  wrong = write_fault t index (length batch / 512)

  pub wrong_counts : {n q : ℕ} → first (count_rows t.r t.w) ≡ fault n q → wrong ≡ fault n q
  unfolding write_rows
  wrong_counts e = append-fault (count_rows t.r t.w) _ e

  pub wrong_index : first (count_rows t.r t.w) ≡ clear → first (entry_rows (value_tx t)) ≡ clear → wrong ≡ first (index_row index (length batch / 512) ∷ [])
  unfolding write_rows
  wrong_index e h = append-clear (count_rows t.r t.w) _ e ∙ append-clear (entry_rows (value_tx t)) _ h

  -- what writing answers
  pub write-refused : (n q : ℕ) → wrong ≡ fault n q → record { answer = refuses n q; batch = batch } ≡ write_page batch index t
  unfolding write_page
  write-refused n q e = rw e

  pub write_done : wrong ≡ clear → record { answer = gives 0; batch = with_page batch index (page_of (value_tx t)) } ≡ write_page batch index t
  unfolding write_page
  write_done e = rw e

-- ---- 6 to 9, then 17, of bytes that are laid out

module _ (batch : List ℕ) (index : ℕ) (p : List ℕ) where
  abbrev laid_wrong : Fault
  laid_wrong = first (laid_rows (page_tx p) index (length batch / 512))

  pub laid-entries : {n q : ℕ} → first (entry_rows (page_tx p)) ≡ fault n q → laid_wrong ≡ fault n q
  laid-entries e = append-fault (entry_rows (page_tx p)) _ e

  pub laid-index : first (entry_rows (page_tx p)) ≡ clear → laid_wrong ≡ first (index_row index (length batch / 512) ∷ [])
  laid-index e = append-clear (entry_rows (page_tx p)) _ e

  pub laid-refused : (n q : ℕ) → laid_wrong ≡ fault n q → record { answer = refuses n q; batch = batch } ≡ write_laid batch index p
  unfolding write_laid
  laid-refused n q e = rw e

  pub laid_done : laid_wrong ≡ clear → record { answer = gives 0; batch = with_page batch index (sets p 508 (le 4 (weighed p 508))) } ≡ write_laid batch index p
  unfolding write_laid
  laid_done e = rw e
