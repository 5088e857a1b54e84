-- The lengths of a read and of a write as bytes. Assumes nothing.
use mathlib.Core.Path.{◌≡◌}
use lib.ListN.{length}
use Rattle.ledger.specs.declared.Read.{Read}
use Rattle.ledger.specs.declared.Write.{Write}
use Rattle.ledger.specs.Page.{read_bytes, write_bytes}
use Rattle.octets.proofs.Stored.{length-entry}

pub length-read : (x : Read) → length (read_bytes x) ≡ 8
length-read x = length-entry _ _ 4 _

pub length-write : (x : Write) → length (write_bytes x) ≡ 12
length-write x = length-entry _ _ 8 _
