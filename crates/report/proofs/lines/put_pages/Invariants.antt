use Prim.Native.Nat.{ℕ, ◌*◌}
use mathlib.Core.List.{List}
use lib.ListN.{length, get_or}
use Rattle.lists.specs.Tables.{flat}
use Rattle.ledger.specs.Gate.{tx_at}
use Rattle.report.specs.Put.{Puts}
use Rattle.report.specs.Listing.{page_line, place_text}
use Rattle.report.proofs.lines.put_pages.Given as goal

-- `put_pages`: a line for each page.
-- the lines of the pages, by index
abbrev pub lines : List ℕ → List ℕ → List ℕ → ℕ → List ℕ
lines batch verdicts order i = page_line (tx_at batch i).ticket (get_or verdicts i 0) (place_text order (length order) i)

abbrev pub invariant-loop-i : goal.invariant-loop-i
invariant-loop-i l = Puts (32 * l.i) (flat l.i (lines l.batch l.fn.verdicts l.order)) l.initial.text l.text
