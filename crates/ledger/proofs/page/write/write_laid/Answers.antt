use Rattle.refusals.proofs.Answers.{handed}
use mathlib.Core.Path.{◌≡◌, sym, ap, ◌∙◌}
use mathlib.Core.Bool.{not}
use mathlib.Core.List.{[], ◌∷◌}
use Prim.Native.Nat.{◌*◌, ◌/◌}
use native.Mathlib.Omega.{arith}
use borrow.Author.Tests.{lt-ltb, le-ltb}
use lib.ListN.{length}
use lib.Seq.{sets}
use Rattle.octets.specs.Bytes.{le, weighed}
use Rattle.refusals.specs.Fault.{first}
use Rattle.refusals.proofs.Rows.{row_there, row-passed}
use Rattle.ledger.specs.Page.{page_tx}
use Rattle.ledger.specs.Services.{index_row, laid_rows, wrote_page}
use Rattle.std.specs.Prelude.{Err}
use Rattle.ledger.proofs.Faults.{laid-entries, laid-index, laid-refused, laid_done}
use Rattle.ledger.proofs.Placed.{part_long, part_back}
use Rattle.ledger.proofs.page.write.write_laid.Goals as goal
use Rattle.ledger.proofs.page.write.write_laid.Goals.{In_ok-entry_fault}

last : (c : In_ok-entry_fault) → let a = c.args in let m = length a.batch.now / 512 in
    first (laid_rows (page_tx a.laid.bytes.now) a.index m) ≡ first (index_row a.index m ∷ [])
last c =
    let a = c.args in
    laid-index a.batch.now a.index a.laid.bytes.now (sym c.in_ok-entry_fault.ensures)

pub returns-in_err-entry_fault : goal.returns-in_err-entry_fault
returns-in_err-entry_fault c =
    let a = c.args in
    ap (λ r. wrote_page r a.batch.now) (handed c.from_residual.ensures.1)
    ∙ laid-refused a.batch.now a.index a.laid.bytes.now _ _
    (laid-entries a.batch.now a.index a.laid.bytes.now (sym c.in_err-entry_fault.ensures))

pub returns-then-index-batch : goal.returns-then-index-batch
returns-then-index-batch c =
    let a = c.args in
    let m = length a.batch.now / 512 in
    ap (λ r. wrote_page (Err r) a.batch.now) c.at.ensures
    ∙ laid-refused a.batch.now a.index a.laid.bytes.now 17 0 (last (goal.at.returns-then-index-batch c).In_ok-entry_fault ∙ row_there (index_row a.index m) [] (ap not (le-ltb a.index m (omega arith))))

pub slice_bounds-fill-end : goal.slice_bounds-fill-end
slice_bounds-fill-end c = omega arith

pub fill-requires : goal.fill-requires
fill-requires c =
    let a = c.args in
    (part_long a.batch.now (a.index * 512) (omega arith), c.args.laid.counted.whole)

pub returns : goal.returns
unfolding first
returns c =
    let a = c.args in
    let b = a.batch.now in
    let p = a.laid.bytes.now in
    rw (c.fill.ensures, part_back b (sets p 508 (le 4 (weighed p 508))) (a.index * 512))
    (laid_done b a.index p (last (goal.at.returns c).In_ok-entry_fault ∙ row-passed (index_row a.index (length b / 512)) [] (ap not (lt-ltb a.index (length b / 512) (omega arith)))))
