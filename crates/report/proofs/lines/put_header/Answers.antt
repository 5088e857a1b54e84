use native.Mathlib.Omega.{arith}
use Rattle.lists.specs.Ascii.{ascii}
use Rattle.report.specs.Listing.{header}
use Rattle.report.proofs.Puts.{◌then◌, in_room}
use Rattle.report.proofs.lines.put_header.Goals as goal

-- `put_header`: its parts one after the other.
pub returns : goal.returns
unfolding header ascii
returns c =
    in_room (omega arith) (c.put_bytes.ensures then c.put_number.ensures then c.put_bytes-2.ensures then c.put_number-2.ensures then c.put_bytes-3.ensures then c.put_number-3.ensures then c.put_byte.ensures)
