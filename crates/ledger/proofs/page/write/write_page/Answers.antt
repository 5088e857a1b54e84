use mathlib.Core.Path.{◌≡◌, sym, ap, ◌∙◌}
use Rattle.refusals.proofs.Answers.{handed}
use Rattle.ledger.specs.Services.{wrote_page}
use borrow.Author.Rules.{rules}
use Rattle.refusals.specs.Fault.{clear, first}
use Rattle.ledger.specs.Page.{count_rows}
use Rattle.ledger.proofs.Owned.{owned_fits, owned_reads, owned_writes}
use Rattle.ledger.proofs.Back.{Drafted, drafted, written}
use Rattle.ledger.proofs.Faults.{Roomy, roomy, wrong_counts, write-refused}
use Rattle.ledger.proofs.page.write.write_page.Goals as goal
use Rattle.ledger.proofs.page.write.write_page.Goals.{After-lay, In_ok-count_fault}

-- `write_page`: the counts, then what is laid out.
no-count : (c : In_ok-count_fault) → let t = c.args.t in first (count_rows t.r t.w) ≡ clear
no-count c = sym c.in_ok-count_fault.ensures

counts : (c : In_ok-count_fault) → let t = c.args.t in Roomy t.r t.w
counts c = roomy _ _ (no-count c)

draft : (c : After-lay) → Drafted c.args.t c.lay.new.p
draft c =
    let t = c.args.t in
    let o = c.well_formed.1.1.0 in
    drafted t (owned_fits t _ o) (owned_reads t _ o) (owned_writes t _ o) (roomy _ _ (sym c.in_ok-count_fault.ensures)) c.lay.new.p c.lay.ensures

pub returns-in_err-count_fault : goal.returns-in_err-count_fault
returns-in_err-count_fault c =
    let a = c.args in
    ap (λ r. wrote_page r a.batch.now) (handed c.from_residual.ensures.1)
    ∙ write-refused a.batch.now a.index a.t _ _ (wrong_counts a.batch.now a.index a.t (sym c.in_err-count_fault.ensures))

pub lay-requires : goal.lay-requires
lay-requires c = let g = counts (goal.at.lay-requires c).In_ok-count_fault in (search rules, g.few-reads, g.few-writes, g.room)

pub invariant_of-page : goal.invariant_of-page
invariant_of-page c = record { counted = (draft (goal.at.invariant_of-page c).After-lay).counted }

pub returns : goal.returns
returns c =
    let a = c.args in
    c.write_laid.ensures ∙ written a.batch.now a.index a.t c.lay.new.p (no-count (goal.at.returns c).In_ok-count_fault) (draft (goal.at.returns c).After-lay)
