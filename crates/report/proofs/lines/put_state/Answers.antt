use native.Mathlib.Omega.{arith}
use mir.Facts.{to_z-of_z}
use Rattle.lists.specs.Ascii.{ascii}
use Rattle.report.specs.Listing.{state_line}
use Rattle.report.proofs.Puts.{◌then◌, in_room}
use Rattle.report.proofs.lines.put_state.Goals as goal

-- `put_state`: its parts one after the other.
pub returns : goal.returns
unfolding state_line ascii
returns c =
    in_room (omega arith) (c.put_number.ensures then c.put_byte.ensures then c.put_number-2.ensures then c.put_byte-2.ensures then c.put_number-3.ensures then c.put_byte-3.ensures then (rw (to_z-of_z c.ranges.value) at c.put_tonnes.ensures) then c.put_byte-4.ensures)
