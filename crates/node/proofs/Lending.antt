-- A transaction lent in arrays: what is laid out of it is what the writer of pages lays out. Assumes nothing.
use mathlib.Core.Path.{◌≡◌, sym, ap, ap₂, ◌∙◌}
use mathlib.Core.Logic.{⊎_elim}
use mathlib.Core.List.{List, ◌++◌}
use Prim.Native.Nat.{ℕ, ◌+◌, ◌*◌, ◌^◌, ◌≤◌, ◌<◌}
use native.Mathlib.Nat.{eq-or-lt_of_le}
use native.Mathlib.Omega.{arith}
use lib.ListN.{length, replicate}
use lib.Seq.{sets}
use Rattle.lists.specs.Tables.{flat}
use Rattle.lists.proofs.Tables.{length-tab, get_or-tab, flat-same}
use Rattle.refusals.specs.Outcome.{refuses}
use Rattle.refusals.specs.Fault.{clear, fault, first}
use Rattle.ledger.specs.declared.Read.{Read}
use Rattle.ledger.specs.declared.Write.{Write}
use Rattle.ledger.specs.Tx.{no_read, no_write, read_of, write_of, value_tx, ReadFits, WriteFits, TransactionFits}
use Rattle.ledger.specs.Page.{read_bytes, write_bytes, head_bytes, laid_of, count_rows}
use Rattle.ledger.specs.Services.{write_page}
use Rattle.ledger.specs.Inner.{write_laid}
use Rattle.ledger.proofs.Stored.{length-read, length-write}
use Rattle.ledger.proofs.Laid.{up_to_spare, stored}
use Rattle.ledger.proofs.Valued.{laid-value}
use Rattle.ledger.proofs.Faults.{Roomy, roomy, wrong_counts, write-refused}
use Rattle.ledger.proofs.Back.{Drafted, drafted, written}
use Rattle.node.specs.Lent.{Arrays, read_in, write_in, lent_tx}

-- what holds below i and at i holds below i + 1
pub up_to : (P : ℕ → Type 0) (i : ℕ) → ((k : ℕ) → k < i → P k) → P i → (k : ℕ) → k < i + 1 → P k
up_to P i below here k h = let l : k ≤ i = omega arith in ⊎_elim {C = P k} (λ e. rw e here) (below k) (eq-or-lt_of_le l)

module _ (a : Arrays) where
  abbrev read : ℕ → Read
  read = read_in a.read_keys a.read_places a.read_blocks

  abbrev write : ℕ → Write
  write = write_in a.write_keys a.write_kinds a.write_values

  long_reads : length (lent_tx a).reads ≡ 32
  unfolding lent_tx
  long_reads = length-tab read 32

  long_writes : length (lent_tx a).writes ≡ 32
  unfolding lent_tx
  long_writes = length-tab write 32

  read_at_lem : (i : ℕ) → i < 32 → read_of (lent_tx a).reads i ≡ read i
  unfolding lent_tx
  read_at_lem i h = get_or-tab read 32 i no_read h

  write-at : (i : ℕ) → i < 32 → write_of (lent_tx a).writes i ≡ write i
  unfolding lent_tx
  write-at i h = get_or-tab write 32 i no_write h

  module _ (r w : ℕ) (er : r ≡ (lent_tx a).r) (ew : w ≡ (lent_tx a).w) where
    pub lent-refused : (batch : List ℕ) (index n q : ℕ) → first (count_rows r w) ≡ fault n q → record { answer = refuses n q; batch = batch } ≡ write_page batch index (lent_tx a)
    lent-refused batch index n q e = write-refused batch index (lent_tx a) n q (wrong_counts batch index (lent_tx a) (rw (er, ew) at e))

    module _ (none : first (count_rows r w) ≡ clear) where
      counts : Roomy r w
      counts = roomy r w none

      few : Roomy (lent_tx a).r (lent_tx a).w
      few = rw (er, ew) at counts

      fits : (lent_tx a).ticket < 2 ^ 32 → ((i : ℕ) → i < r → ReadFits (read i)) → ((i : ℕ) → i < w → WriteFits (write i)) → TransactionFits (lent_tx a)
      fits t f g = record {
        ticket = t;
        reads = λ i l. let k : i < r = rw er l in rw (read_at_lem i (omega (arith, k, counts.few-reads))) (f i k);
        writes = λ i l. let k : i < w = rw ew l in rw (write-at i (omega (arith, k, counts.few-writes))) (g i k);
      }

      -- the head, the reads and the writes put one after the other
      laid : sets (sets (sets (replicate 512 0) 0 (head_bytes r w (lent_tx a).ticket)) 8 (flat r (λ i. read_bytes (read i)))) (8 + 8 * r) (flat w (λ i. write_bytes (write i)))
          ≡ sets (replicate 512 0) 0 (laid_of (value_tx (lent_tx a)))
      laid =
          let value : up_to_spare r w (lent_tx a).ticket (λ i. read_bytes (read_of (lent_tx a).reads i)) (λ i. write_bytes (write_of (lent_tx a).writes i)) ≡ laid_of (value_tx (lent_tx a)) =
          rw (er, ew) (laid-value (lent_tx a) (omega (arith, long_reads, few.few-reads)) (omega (arith, long_writes, few.few-writes))) in
          stored r w (lent_tx a).ticket (λ i. read_bytes (read i)) (λ i. write_bytes (write i)) (λ i. length-read (read i)) (λ i. length-write (write i)) (replicate 512 0)
          ∙ ap (sets (replicate 512 0) 0)
          (ap₂ (λ x y. head_bytes r w (lent_tx a).ticket ++ x ++ y)
          (flat-same _ _ r (λ i l. ap read_bytes (sym (read_at_lem i (omega (arith, counts.few-reads))))))
          (flat-same _ _ w (λ i l. ap write_bytes (sym (write-at i (omega (arith, counts.few-writes))))))
          ∙ value)

      pub lent_drafted : (p q s : List ℕ) (from : ℕ) → p ≡ sets (replicate 512 0) 0 (head_bytes r w (lent_tx a).ticket)
          → q ≡ sets p 8 (flat r (λ i. read_bytes (read i))) → from ≡ 8 + 8 * r → s ≡ sets q from (flat w (λ i. write_bytes (write i)))
          → (lent_tx a).ticket < 2 ^ 32 → ((i : ℕ) → i < r → ReadFits (read i)) → ((i : ℕ) → i < w → WriteFits (write i)) → Drafted (lent_tx a) s
      lent_drafted p q s from ep eq ef es t f g = drafted (lent_tx a) (fits t f g) long_reads long_writes few s (es ∙ rw (ef, eq, ep) laid)

      pub lent_written : (batch : List ℕ) (index : ℕ) (s : List ℕ) → Drafted (lent_tx a) s → write_laid batch index s ≡ write_page batch index (lent_tx a)
      lent_written batch index s d = written batch index (lent_tx a) s (rw (er, ew) at none) d
