-- Laws of pages, for every page that a caller can lend. Assumes nothing.
use mathlib.Core.Path.{◌≡◌, refl}
use mathlib.Core.List.{List, [], ◌∷◌}
use Prim.Native.Nat.{ℕ, ◌^◌, ◌<◌}
use native.Mathlib.Omega.{arith}
use Rattle.lists.specs.Search.{seek, first_in}
use Rattle.refusals.specs.Fault.{clear, first}
use Rattle.refusals.proofs.Rows.{append_none}
use Rattle.ledger.specs.Page.{count_rows, entry_rows, length_row, head_rows, whole_rows, page_rows, page_fault, page_of}
use Rattle.ledger.specs.Inner.{Counted}
use Rattle.ledger.proofs.Back.{good_back}
use Rattle.ledger.proofs.Faults.{head-counted}

-- a good page is counted
pub good-counted : (p : List ℕ) → page_fault p ≡ clear → Counted p
unfolding page_rows whole_rows
good-counted p e = head-counted p (append_none (length_row p ∷ head_rows p) _ e).0

-- a page without reads and writes is good
pub empty_good : (ticket : ℕ) → ticket < 2 ^ 32 → page_fault (page_of (record { ticket = ticket; reads = []; writes = [] })) ≡ clear
unfolding count_rows entry_rows first first_in seek
empty_good ticket h =
    (good_back (record { ticket = ticket; reads = []; writes = [] })
    (record { ticket = h; reads = λ i l. absurd (omega arith); writes = λ i l. absurd (omega arith) }) refl refl).0
