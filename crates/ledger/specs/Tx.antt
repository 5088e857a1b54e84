-- A transaction: a ticket, the reads and the writes, as many as there are. Assumes nothing.
use Rattle.std.specs.Prelude.{ℕ, zero, suc, ◌+◌, ◌-◌, ◌^◌, ◌<◌, Bool, not, ◌||◌, ◌&&◌, List, ◌++◌, map, length, get_or, take, replicate, eqb, ltb, pos}
use Rattle.std.specs.Int.{w64}
use Rattle.std.proofs.Common.{SFits}
use Rattle.lists.specs.Members.{any}
use Rattle.ledger.specs.declared.Version.{Version}
use Rattle.ledger.specs.declared.Read.{Read}
use Rattle.ledger.specs.declared.Write.{Write}
use Rattle.ledger.specs.declared.Transaction.{Transaction}
use Rattle.ledger.specs.Value.{is_zero}
use Rattle.ledger.specs.Version.{is_present, is_deleted, is_absent}

pub record Tx : Type 0 where
  pub ticket : ℕ
  pub reads : List Read
  pub writes : List Write

-- the keys that a transaction reads, and those that it writes
unfoldable pub keys_read : Tx → List ℕ
keys_read x = map (λ r. r.key) x.reads

unfoldable pub keys_written : Tx → List ℕ
keys_written x = map (λ w. w.key) x.writes

-- a "reader of a key", and a "writer of it"
unfoldable pub reader : Tx → ℕ → Bool
reader x k = any (eqb k) (keys_read x)

unfoldable pub writer : Tx → ℕ → Bool
writer x k = any (eqb k) (keys_written x)

-- the zeros that fill a transaction beyond its counts
abbrev pub no_read : Read
no_read = record { key = 0; version = record { block = 0; place = 0 } }

abbrev pub no_write : Write
no_write = record { key = 0; kind = 0; value = pos 0 }

-- entry i
abbrev pub read_of : List Read → ℕ → Read
read_of rs i = get_or rs i no_read

abbrev pub write_of : List Write → ℕ → Write
write_of ws i = get_or ws i no_write

-- "The transaction as a value holds the counts, the ticket, 32 reads and 32 writes": what it holds within its counts
unfoldable pub value_tx : Transaction → Tx
value_tx t = record { ticket = t.ticket; reads = take t.r t.reads; writes = take t.w t.writes }

-- "Reading a page fills entries beyond the counts with zero"
unfoldable pub padded : Tx → Transaction
padded x = record {
  ticket = x.ticket;
  r = length x.reads;
  w = length x.writes;
  reads = x.reads ++ replicate (32 - length x.reads) no_read;
  writes = x.writes ++ replicate (32 - length x.writes) no_write;
}

-- ---- the rules for one entry

-- the least key that may stand at an index: 0 at first, then one more than the key before
unfoldable pub floor_of : (ℕ → ℕ) → ℕ → ℕ
floor_of key zero = 0
floor_of key (suc i) = key i + 1

abbrev pub wrong_key : ℕ → ℕ → Bool
wrong_key floor key = ltb key floor || ltb 1023 key

-- "keys not rising, or above 1023", of reads and of writes: so at index i
abbrev pub out_of_turn : (ℕ → ℕ) → ℕ → Bool
out_of_turn key i = wrong_key (floor_of key i) (key i)

-- "A read's version is absent (block 0, place 65535) or has a place of 0 to 63"; 02, E3: "Reads may name a version with place 32768 to 32831"
abbrev pub wrong_version : Version → Bool
wrong_version v = not (is_present v || is_deleted v || is_absent v)

-- "Kind 0 puts, kind 1 deletes; a delete has value 0"
abbrev pub wrong_kind : Write → Bool
wrong_kind x = not (eqb x.kind 0 || (eqb x.kind 1 && is_zero x.value))

-- ---- the ranges of the types of the fields: what a value of the program always has

pub record ReadFits (x : Read) : Type 0 where
  pub key : x.key < 2 ^ 16
  pub place : x.version.place < 2 ^ 16
  pub block : x.version.block < 2 ^ 32

pub record WriteFits (x : Write) : Type 0 where
  pub key : x.key < 2 ^ 16
  pub kind : x.kind < 2 ^ 16
  pub value : SFits w64 x.value

pub record TransactionFits (t : Transaction) : Type 0 where
  pub ticket : t.ticket < 2 ^ 32
  pub reads : (i : ℕ) → i < t.r → ReadFits (read_of t.reads i)
  pub writes : (i : ℕ) → i < t.w → WriteFits (write_of t.writes i)
