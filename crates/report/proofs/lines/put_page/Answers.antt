use native.Mathlib.Omega.{arith}
use Rattle.lists.specs.Ascii.{ascii}
use Rattle.report.specs.Listing.{page_line}
use Rattle.report.proofs.Puts.{◌then◌, in_room}
use Rattle.report.proofs.lines.put_page.Goals as goal

-- `put_page`: its parts one after the other.
pub returns : goal.returns
unfolding page_line ascii
returns c =
    in_room (omega arith) (c.put_number.ensures then c.put_byte.ensures then c.put_word.ensures then c.put_byte-2.ensures then c.put_place.ensures then c.put_byte-3.ensures)
