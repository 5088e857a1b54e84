use native.Mathlib.Omega.{arith}
use Rattle.lists.specs.Ascii.{ascii}
use Rattle.report.specs.Listing.{refusal}
use Rattle.report.proofs.Puts.{◌then◌, in_room}
use Rattle.report.proofs.lines.put_refusal.Goals as goal

-- `put_refusal`: its parts one after the other.
pub returns : goal.returns
unfolding refusal ascii
returns c =
    in_room (omega arith) (c.put_bytes.ensures then c.put_number.ensures then c.put_byte.ensures then c.put_number-2.ensures then c.put_byte-2.ensures)
