-- A good page is the page of the transaction on it, byte for byte. Assumes nothing.
use mathlib.Core.Path.{◌≡◌, sym, ap, ap₂, ◌∙◌}
use mathlib.Core.List.{List, ◌++◌}
use Prim.Native.Nat.{ℕ, ◌+◌, ◌-◌, ◌*◌, ◌≤◌}
use native.Mathlib.Omega.{arith}
use lib.ListN.{length, take, drop, replicate, take-append-drop}
use lib.Seq.{take_all, take-add, length-take-le}
use mir.Syntax.{w64}
use mir.Facts.{of_z-to_z}
use Rattle.refusals.specs.Fault.{clear}
use Rattle.lists.specs.Tables.{flat}
use Rattle.octets.specs.Bytes.{field, weighed, Small}
use Rattle.ledger.specs.Tx.{read_of, write_of}
use Rattle.ledger.specs.Page.{read_count, write_count, size, read_at, write_at, page_tx, read_bytes, write_bytes, head_bytes, body_of, page_of, page_fault}
use Rattle.ledger.proofs.OnPage.{count-reads, count-writes, read_is, write_is}
use Rattle.octets.proofs.Parts.{part, part-suc, le-field, field_lt, le-entry, flat_parts, zeros_in}
use Rattle.ledger.proofs.Laid.{weighed_front}
use Rattle.ledger.proofs.Faults.{Headed, Sound, spare_from, roomy, sound}

module _ (p : List ℕ) (small : Small p) where
  read-part : (a : ℕ) → a + 8 ≤ length p → read_bytes (read_at p a) ≡ part p a 8
  read-part a h = le-entry p small a 4 h

  write-part : (a : ℕ) → a + 12 ≤ length p → write_bytes (write_at p a) ≡ part p a 12
  write-part a h =
      rw (of_z-to_z {w = w64} {n = field p (a + 4) 8} (record { fits = field_lt p small (a + 4) 8 })) (le-entry p small a 8 h)

  reads-part : 8 + 8 * read_count p ≤ length p → flat (read_count p) (λ i. read_bytes (read_of (page_tx p).reads i)) ≡ part p 8 (8 * read_count p)
  reads-part h =
      flat_parts p 8 8 _ (read_count p) (λ i l. ap read_bytes (read_is p i l) ∙ read-part (8 + 8 * i) (omega arith))

  writes-part : 8 + 8 * read_count p + 12 * write_count p ≤ length p
      → flat (write_count p) (λ i. write_bytes (write_of (page_tx p).writes i)) ≡ part p (8 + 8 * read_count p) (12 * write_count p)
  writes-part h =
      flat_parts p (8 + 8 * read_count p) 12 _ (write_count p)
      (λ i l. ap write_bytes (write_is p i l) ∙ write-part (8 + 8 * read_count p + 12 * i) (omega arith))

  head-part : Headed p → head_bytes (read_count p) (write_count p) (field p 4 4) ≡ part p 0 8
  head-part g =
      let n = g.long in
      rw (part-suc p 0 7 (omega arith), part-suc p 1 6 (omega arith), part-suc p 2 5 (omega arith), part-suc p 3 4 (omega arith), g.mark, g.three, le-field p small 4 4 (omega arith))

  module _ (o : Sound p) where
    abbrev r : ℕ
    r = read_count p

    abbrev w : ℕ
    w = write_count p

    room : size r w ≤ 500
    room = (roomy r w o.head.counts).room

    spare-part : replicate (500 - size r w) 0 ≡ part p (8 + 8 * r + 12 * w) (500 - size r w)
    spare-part =
        let a : spare_from p ≡ 8 + 8 * r + 12 * w = omega arith in
        let b : 508 - spare_from p ≡ 500 - size r w = omega arith in
        rw (b, a) at (zeros_in p (spare_from p) 508 (omega (arith, room)) (omega (arith, o.head.long)) o.spare)

    body_part : body_of (page_tx p) ≡ take 508 p
    unfolding body_of page_tx
    body_part =
        let whole : 8 + 8 * r + 12 * w + (500 - size r w) ≡ 508 = omega (arith, room) in
        rw (count-reads p, count-writes p)
        (ap₂ (λ a b. a ++ b)
        (ap₂ (λ a b. a ++ b)
        (ap₂ (λ a b. a ++ b) (head-part o.head) (reads-part (omega (arith, o.head.long, room))) ∙ sym (take-add 8 (8 * r) p))
        (writes-part (omega (arith, o.head.long, room)))
        ∙ sym (take-add (8 + 8 * r) (12 * w) p))
        spare-part
        ∙ sym (take-add (8 + 8 * r + 12 * w) (500 - size r w) p)
        ∙ ap (λ (n : ℕ). take n p) whole)

-- a good page is exactly the page of the transaction on it
pub page_exact : (p : List ℕ) → Small p → page_fault p ≡ clear → page_of (page_tx p) ≡ p
unfolding page_of
page_exact p small e =
    let o = sound p e in
    let g = o.head in
    let n : 508 ≤ length (take 508 p) = omega (arith, length-take-le 508 p (omega (arith, g.long))) in
    let s : weighed (take 508 p) 508 ≡ field p 508 4 =
    sym (weighed_front (take 508 p) (drop 508 p) 508 n) ∙ ap (λ (l : List ℕ). weighed l 508) (take-append-drop 508 p) ∙ g.sum in
    rw (body_part p small o, s, le-field p small 508 4 (omega (arith, g.long))) (sym (take-add 508 4 p) ∙ take_all 512 p (omega (arith, g.long)))
