-- The page of a transaction with no fault is good, and holds the transaction; so do the bytes that the writer lays out first. Assumes nothing.
use mathlib.Core.Path.{◌≡◌, refl, sym, ap, ap₂, ◌∙◌}
use mathlib.Core.Bool.{false}
use mathlib.Core.List.{List, [], ◌∷◌, ◌++◌, append_assoc}
use Prim.Native.Nat.{ℕ, ◌+◌, ◌-◌, ◌*◌, ◌/◌, ◌^◌, ◌≤◌, ◌<◌}
use native.Mathlib.Omega.{arith}
use lib.ListN.{length, get_or, replicate, length-append, length-take, get_or-replicate, length-replicate, replicate-append-replicate, get_or-append}
use lib.Seq.{sets, get_or-append-add}
use mir.Syntax.{w64}
use mir.Val.{to_z, of_z}
use mir.Facts.{to_z-of_z, Fits-of_z}
use borrow.Author.Tests.{eq-eqb, le-ltb}
use Rattle.lists.specs.Search.{seek, first_in, some_in}
use Rattle.lists.proofs.Searches.{seek_none}
use Rattle.ledger.specs.declared.Transaction.{Transaction}
use Rattle.lists.specs.Tables.{tab, flat}
use Rattle.octets.specs.Bytes.{field, le, weighed, set?, Small}
use Rattle.ledger.specs.Tx.{Tx, no_read, no_write, read_of, write_of, value_tx, ReadFits, WriteFits, TransactionFits}
use Rattle.ledger.specs.Page.{read_count, write_count, size, read_at, write_at, read_bytes, write_bytes, laid_of, body_of, page_of, page_tx, count_rows, head_rows, entry_rows, spare_row, page_fault}
use Rattle.ledger.specs.Inner.{Counted, write_laid}
use Rattle.ledger.specs.Services.{laid_rows, write_rows, write_page}
use Rattle.octets.proofs.Numbers.{check_most}
use Rattle.octets.proofs.Stored.{length-le}
use Rattle.lists.proofs.Tables.{tab-same, tab_list}
use Rattle.ledger.proofs.Stored.{length-read, length-write}
use Rattle.octets.proofs.Fields.{field_skip, field_front, field-le, entry_first, entry_second, entry-third, entry-field, small-le, small-cons, small-append, small-entry, small-flat, small-zeros}
use Rattle.ledger.proofs.Laid.{front, up_to_writes, up_to_spare, length_front, length_two, length_three, length_body, length_whole, weighed_front, sets_zeros, sets_end}
use Rattle.ledger.proofs.Valued.{read_of_lem, write_of_lem, reads_many, writes_many}
use Rattle.refusals.specs.Fault.{clear, first}
use Rattle.refusals.proofs.Rows.{row-passed, append-clear}
use Rattle.ledger.proofs.Faults.{Roomy, roomy, head_fault, by-spare}

-- the entries of a transaction are within the ranges of their types
pub record Fitting (x : Tx) : Type 0 where
  pub ticket : x.ticket < 2 ^ 32
  pub reads : (i : ℕ) → i < length x.reads → ReadFits (read_of x.reads i)
  pub writes : (i : ℕ) → i < length x.writes → WriteFits (write_of x.writes i)

module _ (x : Tx) where
  abbrev r : ℕ
  r = length x.reads

  abbrev w : ℕ
  w = length x.writes

  -- the bytes of entry i
  abbrev f : ℕ → List ℕ
  f i = read_bytes (read_of x.reads i)

  abbrev g : ℕ → List ℕ
  g i = write_bytes (write_of x.writes i)

  each_read : (i : ℕ) → length (f i) ≡ 8
  each_read i = length-read (read_of x.reads i)

  each_write : (i : ℕ) → length (g i) ≡ 12
  each_write i = length-write (write_of x.writes i)

  abbrev head : List ℕ
  head = front r w x.ticket f g

  -- a page that begins with the transaction's bytes, whatever follows them
  module _ (rest : List ℕ) where
    abbrev page : List ℕ
    page = laid_of x ++ rest

    at-writes : page ≡ up_to_writes r w x.ticket f g ++ (flat w g ++ rest)
    at-writes = append_assoc (up_to_writes r w x.ticket f g) (flat w g) rest

    at_reads : page ≡ head ++ (flat r f ++ (flat w g ++ rest))
    at_reads = at-writes ∙ append_assoc head (flat r f) _

    read-field : (i j m at : ℕ) → i < r → j + m ≤ 8 → at ≡ 8 + (8 * i + j) → field page at m ≡ field (f i) j m
    read-field i j m at h k e =
        ap (λ (l : List ℕ). field l at m) at_reads
        ∙ entry-field 8 f each_read j m k head r _ i at h (omega (arith, length_front r w x.ticket f g))

    write-field : (i j m at : ℕ) → i < w → j + m ≤ 12 → at ≡ 8 + 8 * r + (12 * i + j) → field page at m ≡ field (g i) j m
    write-field i j m at h k e =
        ap (λ (l : List ℕ). field l at m) at-writes
        ∙ entry-field 12 g each_write j m k (up_to_writes r w x.ticket f g) w _ i at h (omega (arith, length_two r w x.ticket f g each_read each_write))

    read_back : (i : ℕ) → i < r → ReadFits (read_of x.reads i) → read_at page (8 + 8 * i) ≡ read_of x.reads i
    read_back i h fits =
        let y = read_of x.reads i in
        let a : field page (8 + 8 * i) 2 ≡ y.key = read-field i 0 2 _ h (omega arith) (omega arith) ∙ entry_first _ _ 4 _ fits.key in
        let b : field page (8 + 8 * i + 2) 2 ≡ y.version.place = read-field i 2 2 _ h (omega arith) (omega arith) ∙ entry_second _ _ 4 _ fits.place in
        let c : field page (8 + 8 * i + 4) 4 ≡ y.version.block = read-field i 4 4 _ h (omega arith) (omega arith) ∙ entry-third _ _ 4 _ fits.block in
        λ k. record { key = a k; version = record { block = c k; place = b k } }

    write_back : (i : ℕ) → i < w → WriteFits (write_of x.writes i) → write_at page (8 + 8 * r + 12 * i) ≡ write_of x.writes i
    write_back i h fits =
        let y = write_of x.writes i in
        let at = 8 + 8 * r + 12 * i in
        let a : field page at 2 ≡ y.key = write-field i 0 2 _ h (omega arith) (omega arith) ∙ entry_first _ _ 8 _ fits.key in
        let b : field page (at + 2) 2 ≡ y.kind = write-field i 2 2 _ h (omega arith) (omega arith) ∙ entry_second _ _ 8 _ fits.kind in
        let c : field page (at + 4) 8 ≡ of_z w64 y.value = write-field i 4 8 _ h (omega arith) (omega arith) ∙ entry-third _ _ 8 _ (Fits-of_z fits.value).fits in
        let d : to_z w64 (field page (at + 4) 8) ≡ y.value = ap (to_z w64) c ∙ to_z-of_z fits.value in
        λ k. record { key = a k; kind = b k; value = d k }

    module _ (fits : Fitting x) where
      ticket_back : field page 4 4 ≡ x.ticket
      ticket_back =
          ap (λ (l : List ℕ). field l 4 4) at_reads
          ∙ field_front head _ 4 4 (omega (arith, length_front r w x.ticket f g))
          ∙ field_skip (0x54 ∷ r ∷ w ∷ 0 ∷ []) (le 4 x.ticket) 0 4
          ∙ field-le 4 x.ticket fits.ticket

      reads_back : tab r (λ i. read_at page (8 + 8 * i)) ≡ x.reads
      reads_back = tab-same _ _ r (λ i l. read_back i l (fits.reads i l)) ∙ tab_list x.reads no_read

      writes_back : tab w (λ i. write_at page (8 + 8 * r + 12 * i)) ≡ x.writes
      writes_back = tab-same _ _ w (λ i l. write_back i l (fits.writes i l)) ∙ tab_list x.writes no_write

      pub tx-laid : page_tx page ≡ x
      unfolding page_tx
      tx-laid = λ k. record { ticket = ticket_back k; reads = reads_back k; writes = writes_back k }

    pub counted-laid : Roomy r w → length page ≡ 512 → Counted page
    counted-laid n long = record { whole = long; few-reads = n.few-reads; few-writes = n.few-writes; room = n.room }

  -- the page itself
  abbrev tail : List ℕ
  tail = replicate (500 - size r w) 0 ++ le 4 (weighed (body_of x) 508)

  page-laid : page_of x ≡ laid_of x ++ tail
  unfolding page_of body_of
  page-laid = append_assoc (laid_of x) _ _

  tx_back : Fitting x → page_tx (page_of x) ≡ x
  tx_back fits = ap page_tx page-laid ∙ tx-laid tail fits

  r_back : read_count (page_of x) ≡ r
  unfolding page_of body_of
  r_back = refl

  w_back : write_count (page_of x) ≡ w
  unfolding page_of body_of
  w_back = refl

  mark_back : get_or (page_of x) 0 0 ≡ 0x54
  unfolding page_of body_of
  mark_back = refl

  three_back : get_or (page_of x) 3 0 ≡ 0
  unfolding page_of body_of
  three_back = refl

  module _ (n : Roomy r w) where
    small_body : Small (body_of x)
    unfolding body_of
    small_body =
        let four : Small (0x54 ∷ r ∷ w ∷ 0 ∷ []) =
        small-cons 0x54 (r ∷ w ∷ 0 ∷ []) (omega arith) (small-cons r (w ∷ 0 ∷ []) (omega arith) (small-cons w (0 ∷ []) (omega arith) (small-cons 0 [] (omega arith) (λ i. omega arith)))) in
        small-append (up_to_spare r w x.ticket f g) _
        (small-append (up_to_writes r w x.ticket f g) _
        (small-append head _
        (small-append (0x54 ∷ r ∷ w ∷ 0 ∷ []) (le 4 x.ticket) four (small-le 4 x.ticket))
        (small-flat _ (λ i. small-entry _ _ 4 _) r))
        (small-flat _ (λ i. small-entry _ _ 8 _) w))
        (small-zeros (500 - size r w))

    long_body : length (body_of x) ≡ 508
    unfolding body_of
    long_body = length_body r w x.ticket f g each_read each_write n.room

    pub long_page : length (page_of x) ≡ 512
    unfolding page_of body_of
    long_page = length_whole r w x.ticket f g each_read each_write n.room

    -- the transaction's bytes laid out in zeros: the page but for its check
    pub laid-zeros : sets (replicate 512 0) 0 (laid_of x) ≡ laid_of x ++ replicate (504 - size r w) 0
    laid-zeros = sets_zeros (laid_of x) (504 - size r w) 512 (omega (arith, length_three r w x.ticket f g each_read each_write, n.room))

    pub long_zeros : length (laid_of x ++ replicate (504 - size r w) 0) ≡ 512
    long_zeros =
        length-append (laid_of x) _
        ∙ omega (arith, length_three r w x.ticket f g each_read each_write, length-replicate {A = ℕ} (504 - size r w) 0, n.room)

    body_zeros : laid_of x ++ replicate (504 - size r w) 0 ≡ body_of x ++ replicate 4 0
    unfolding body_of
    body_zeros =
        let e : 500 - size r w + 4 ≡ 504 - size r w = omega (arith, n.room) in
        sym (append_assoc (laid_of x) (replicate (500 - size r w) 0) (replicate 4 0)
        ∙ ap (λ (l : List ℕ). laid_of x ++ l) (replicate-append-replicate {A = ℕ} (500 - size r w) 4 0 ∙ ap (λ k. replicate k 0) e))

    pub page-filled : (p : List ℕ) → p ≡ laid_of x ++ replicate (504 - size r w) 0 → sets p 508 (le 4 (weighed p 508)) ≡ page_of x
    unfolding page_of
    page-filled p e =
        rw (e ∙ body_zeros)
        (ap (λ k. sets (body_of x ++ replicate 4 0) 508 (le 4 k)) (weighed_front (body_of x) _ 508 (omega (arith, long_body)))
        ∙ sets_end (body_of x) (replicate 4 0) (le 4 (weighed (body_of x) 508)) 508 long_body (length-le 4 (weighed (body_of x) 508)))

    check_back : weighed (page_of x) 508 ≡ field (page_of x) 508 4
    unfolding page_of
    check_back =
        let s = weighed (body_of x) 508 in
        let e : 508 ≡ length (body_of x) + 0 = omega (arith, long_body) in
        weighed_front (body_of x) _ 508 (omega (arith, long_body))
        ∙ sym (ap (λ (k : ℕ). field (body_of x ++ le 4 s) k 4) e ∙ field_skip (body_of x) (le 4 s) 0 4 ∙ field-le 4 s (omega (arith, check_most (body_of x) small_body)))

    spare_byte : (j : ℕ) → j < 500 - size r w → get_or (page_of x) (8 + size r w + j) 0 ≡ 0
    unfolding page_of body_of
    spare_byte j l =
        let z : List ℕ = replicate (500 - size r w) 0 in
        let c = le 4 (weighed (body_of x) 508) in
        let a = up_to_spare r w x.ticket f g in
        ap₂ (λ p i. get_or p i 0) (append_assoc a z c) (ap (λ n. n + j) (sym (length_three r w x.ticket f g each_read each_write)))
        ∙ get_or-append-add a (z ++ c) j 0
        ∙ get_or-append z c 0 j (rw (length-replicate {A = ℕ} (500 - size r w) 0) l)
        ∙ get_or-replicate (500 - size r w) j 0 0 l

    spare_back : some_in (set? (page_of x)) (8 + size r w) 508 ≡ false
    unfolding first_in
    spare_back =
        let a = 8 + size r w in
        let none : seek (set? (page_of x)) a (508 - a) ≡ a + (508 - a) = seek_none (set? (page_of x)) a (508 - a) (λ j l. rw (spare_byte j (omega arith))) in
        le-ltb (seek (set? (page_of x)) a (508 - a)) 508 (omega (arith, none, n.room))

    headed_back : first (count_rows r w) ≡ clear → head_fault (page_of x) ≡ clear
    unfolding head_rows first
    headed_back e = rw (eq-eqb _ _ long_page, eq-eqb _ _ check_back, mark_back, three_back, r_back, w_back) e

-- a transaction with no fault: its page has none, and holds it
pub good_back : (x : Tx) → Fitting x → first (count_rows (length x.reads) (length x.writes)) ≡ clear → first (entry_rows x) ≡ clear
    → (page_fault (page_of x) ≡ clear) × (page_tx (page_of x) ≡ x)
unfolding first
good_back x fits e h =
    let n = roomy _ _ e in
    let spare : some_in (set? (page_of x)) (8 + size (read_count (page_of x)) (write_count (page_of x))) 508 ≡ false =
    rw (r_back x, w_back x) (spare_back x n) in
    (by-spare (page_of x) (headed_back x n e) (ap (λ y. first (entry_rows y)) (tx_back x fits) ∙ h) ∙ row-passed (spare_row (page_of x)) [] spare, tx_back x fits)

-- what a value of the program holds, within its counts
module _ (t : Transaction) where
  reads-few : length (value_tx t).reads ≤ t.r
  unfolding value_tx
  reads-few = simp length-take (omega arith)

  writes-few : length (value_tx t).writes ≤ t.w
  unfolding value_tx
  writes-few = simp length-take (omega arith)

  same-ticket : (value_tx t).ticket ≡ t.ticket
  unfolding value_tx
  same-ticket = refl

  pub fitting : TransactionFits t → Fitting (value_tx t)
  fitting fits = record {
    ticket = rw same-ticket fits.ticket;
    reads = λ i h. let l : i < t.r = omega (arith, reads-few) in rw (read_of_lem t i l) (fits.reads i l);
    writes = λ i h. let l : i < t.w = omega (arith, writes-few) in rw (write_of_lem t i l) (fits.writes i l);
  }

-- what the writer lays out in zeros: its counts are good, it holds the transaction, and its check makes it the page
pub record Drafted (t : Transaction) (p : List ℕ) : Type 0 where
  pub counted : Counted p
  pub holds : page_tx p ≡ value_tx t
  pub filled : sets p 508 (le 4 (weighed p 508)) ≡ page_of (value_tx t)

pub drafted : (t : Transaction) → TransactionFits t → length t.reads ≡ 32 → length t.writes ≡ 32 → Roomy t.r t.w
    → (p : List ℕ) → p ≡ sets (replicate 512 0) 0 (laid_of (value_tx t)) → Drafted t p
drafted t fits lr lw n p e =
    let x = value_tx t in
    let reads : length x.reads ≡ t.r = reads_many t (omega arith) (omega arith) in
    let writes : length x.writes ≡ t.w = writes_many t (omega arith) (omega arith) in
    let m : Roomy (length x.reads) (length x.writes) = rw (reads, writes) n in
    let laid : p ≡ laid_of x ++ replicate (504 - size (length x.reads) (length x.writes)) 0 = e ∙ laid-zeros x m in
    record {
      counted = rw laid (counted-laid x _ m (long_zeros x m));
      holds = ap page_tx laid ∙ tx-laid x _ (fitting t fits);
      filled = page-filled x m p laid;
    }

-- so writing it is writing the transaction
pub written : (batch : List ℕ) (index : ℕ) (t : Transaction) (p : List ℕ) → first (count_rows t.r t.w) ≡ clear → Drafted t p
    → write_laid batch index p ≡ write_page batch index t
unfolding write_laid write_page write_rows
written batch index t p e d = rw (d.holds, d.filled, append-clear (count_rows t.r t.w) (laid_rows (value_tx t) index (length batch / 512)) e)

-- fewer entries have room too
room_less : (r w a b : ℕ) → a ≤ r → b ≤ w → first (count_rows r w) ≡ clear → first (count_rows a b) ≡ clear
unfolding count_rows first
room_less r w a b h k e =
    let n = roomy r w e in
    rw (le-ltb 32 a (omega arith), le-ltb 32 b (omega arith), le-ltb 500 (size a b) (omega arith))

-- what is written is good and holds what was written
pub page_back : (t : Transaction) → TransactionFits t → first (count_rows t.r t.w) ≡ clear → first (entry_rows (value_tx t)) ≡ clear
    → (page_fault (page_of (value_tx t)) ≡ clear) × (page_tx (page_of (value_tx t)) ≡ value_tx t)
page_back t fits c e = good_back (value_tx t) (fitting t fits) (room_less t.r t.w _ _ (reads-few t) (writes-few t) c) e
