-- The transaction that a value of the program holds within its counts. Assumes nothing.
use mathlib.Core.Path.{◌≡◌, sym, ap, ap₂}
use mathlib.Core.List.{List, ◌++◌}
use Prim.Native.Nat.{ℕ, ◌-◌, ◌≤◌, ◌<◌}
use lib.ListN.{length, replicate}
use lib.Seq.{get_or-take, length-take-le, take-append_seam}
use Rattle.ledger.specs.declared.Transaction.{Transaction}
use Rattle.ledger.specs.Tx.{Tx, padded, no_read, no_write, read_of, write_of, value_tx}
use Rattle.ledger.specs.Page.{head_bytes, read_bytes, write_bytes, laid_of}
use Rattle.lists.proofs.Tables.{flat-same}
use Rattle.ledger.proofs.Laid.{up_to_spare}

-- an entry below the count
pub read_of_lem : (t : Transaction) (i : ℕ) → i < t.r → read_of (value_tx t).reads i ≡ read_of t.reads i
unfolding value_tx
read_of_lem t i h = get_or-take t.r t.reads i no_read h

pub write_of_lem : (t : Transaction) (i : ℕ) → i < t.w → write_of (value_tx t).writes i ≡ write_of t.writes i
unfolding value_tx
write_of_lem t i h = get_or-take t.w t.writes i no_write h

-- arrays of the program hold all the entries that are counted
module _ (t : Transaction) (has-reads : t.r ≤ length t.reads) (has-writes : t.w ≤ length t.writes) where
  pub reads_many : length (value_tx t).reads ≡ t.r
  unfolding value_tx
  reads_many = length-take-le t.r t.reads has-reads

  pub writes_many : length (value_tx t).writes ≡ t.w
  unfolding value_tx
  writes_many = length-take-le t.w t.writes has-writes

  abbrev reads_of : ℕ → List ℕ
  reads_of i = read_bytes (read_of t.reads i)

  abbrev writes_of : ℕ → List ℕ
  writes_of i = write_bytes (write_of t.writes i)

  pub laid-value : up_to_spare t.r t.w t.ticket reads_of writes_of ≡ laid_of (value_tx t)
  unfolding value_tx
  laid-value =
      rw (reads_many, writes_many)
      (ap₂ (λ a b. head_bytes t.r t.w t.ticket ++ a ++ b)
      (flat-same _ _ t.r (λ i h. ap read_bytes (sym (read_of_lem t i h))))
      (flat-same _ _ t.w (λ i h. ap write_bytes (sym (write_of_lem t i h)))))

-- ---- up to the entries beyond the counts

pub value-padded : (x : Tx) → value_tx (padded x) ≡ x
unfolding value_tx padded
value-padded x = λ i. record {
  ticket = x.ticket;
  reads = take-append_seam x.reads (replicate (32 - length x.reads) no_read) i;
  writes = take-append_seam x.writes (replicate (32 - length x.writes) no_write) i;
}
