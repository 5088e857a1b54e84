-- A page asked whether it is good: what the steps of page/good.rt find, and the table of a page. Assumes nothing.
use mathlib.Core.Path.{◌≡◌, sym, ap, ◌∙◌}
use mathlib.Core.Bool.{true, false, not, ◌&&◌, true≢false}
use mathlib.Core.List.{List, [], ◌∷◌, ◌++◌}
use Prim.Native.Nat.{ℕ}
use lib.ListN.{length, get_or}
use lib.Dec.{eqb}
use borrow.Author.Tests.{eqb-true, eq-eqb, not-true}
use Rattle.lists.specs.Search.{some_in}
use Rattle.refusals.specs.Fault.{clear, first, is_clear}
use Rattle.refusals.proofs.Rows.{not-clear, clear_is, one-clear, append-clear, append_none, append-rest}
use Rattle.octets.specs.Bytes.{field, weighed, set?}
use Rattle.ledger.specs.Tx.{Tx}
use Rattle.ledger.specs.Page.{read_count, write_count, length_row, head_rows, reads_rows, writes_rows, entry_rows, spare_row, whole_rows, page_rows, page_fault, page_tx, count_rows}
use Rattle.ledger.specs.Inner.{Counted}
use Rattle.ledger.specs.Good.{framed, closed}
use Rattle.ledger.proofs.Faults.{and_both, spare_from, roomy, head_fault, sound, is_counts}

module _ (p : List ℕ) where
  -- the head but for its check
  record Framed : Type 0 where
    pub long : length p ≡ 512
    pub mark : get_or p 0 0 ≡ 0x54
    pub three : get_or p 3 0 ≡ 0
    pub counts : first (count_rows (read_count p) (write_count p)) ≡ clear

  frame : framed p ≡ true → Framed
  unfolding framed
  frame e =
      let whole = eqb (length p) 512 in
      let marks = eqb (get_or p 0 0) 0x54 && eqb (get_or p 3 0) 0 in
      let a = and_both (whole && marks) (is_clear (first (count_rows (read_count p) (write_count p)))) e in
      let b = and_both whole marks a.0 in
      let m = and_both (eqb (get_or p 0 0) 0x54) (eqb (get_or p 3 0) 0) b.1 in
      record { long = eqb-true _ _ b.0; mark = eqb-true _ _ m.0; three = eqb-true _ _ m.1; counts = clear_is _ (sym a.1) }

  pub framed-counted : framed p ≡ true → Counted p
  framed-counted e =
      let f = frame e in
      let n = roomy _ _ f.counts in
      record { whole = f.long; few-reads = n.few-reads; few-writes = n.few-writes; room = n.room }

  -- a page of which a step finds something wrong is not good
  pub not-framed : framed p ≡ false → false ≡ is_clear (page_fault p)
  unfolding framed
  not-framed e =
      not-clear (page_fault p)
      (λ g. let h = (sound p g).head in true≢false (sym (rw (eq-eqb _ _ h.long, eq-eqb _ _ h.mark, eq-eqb _ _ h.three, h.counts)) ∙ e))

  pub not-closed : closed p ≡ false → false ≡ is_clear (page_fault p)
  unfolding closed
  not-closed e =
      not-clear (page_fault p)
      (λ g. let o = sound p g in true≢false (sym (rw (o.spare, eq-eqb _ _ o.head.sum)) ∙ e))

  -- where they find nothing the entries decide
  pub by_entries : framed p ≡ true → closed p ≡ true → is_clear (first (entry_rows (page_tx p))) ≡ is_clear (page_fault p)
  unfolding closed page_rows whole_rows
  by_entries e k =
      let f = frame e in
      let c = and_both (not (some_in (set? p) (spare_from p) 508)) (eqb (weighed p 508) (field p 508 4)) k in
      let head : head_fault p ≡ clear = sym (is_counts p f.long (eqb-true _ _ c.1) f.mark f.three) ∙ f.counts in
      ap is_clear
      (sym
      (append-clear (length_row p ∷ head_rows p) (entry_rows (page_tx p) ++ (spare_row p ∷ [])) head
      ∙ append-rest (entry_rows (page_tx p)) (spare_row p ∷ []) (one-clear _ _ _ (not-true (some_in (set? p) (spare_from p) 508) c.0))))

-- the entries: the reads, then the writes
module _ (x : Tx) where
  pub not-reads : is_clear (first (reads_rows x)) ≡ false → false ≡ is_clear (first (entry_rows x))
  unfolding entry_rows
  not-reads e = not-clear _ (λ g. true≢false (sym (ap is_clear (append_none (reads_rows x) (writes_rows x) g).0) ∙ e))

  pub by-writes : is_clear (first (reads_rows x)) ≡ true → is_clear (first (writes_rows x)) ≡ is_clear (first (entry_rows x))
  unfolding entry_rows
  by-writes r = ap is_clear (sym (append-clear (reads_rows x) (writes_rows x) (clear_is _ (sym r))))
