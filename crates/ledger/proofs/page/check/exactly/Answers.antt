use Rattle.std.specs.Prelude.{Err}
use Rattle.refusals.proofs.Answers.{handed}
use Rattle.refusals.specs.Outcome.{outcome}
use mathlib.Core.Path.{◌≡◌, sym, ap, ◌∙◌}
use mathlib.Core.List.{[], ◌∷◌}
use native.Mathlib.Omega.{arith}
use Rattle.lists.specs.Search.{first_in}
use Rattle.refusals.specs.Fault.{clear, first}
use Rattle.refusals.proofs.Rows.{empty_clear, lowest_found, lowest_missed}
use Rattle.octets.specs.Bytes.{set?}
use Rattle.ledger.specs.Page.{spare_row, page_fault}
use Rattle.ledger.specs.Inner.{Counted}
use Rattle.ledger.proofs.OnPage.{count-reads, count-writes}
use Rattle.ledger.proofs.Faults.{head_fault, spare_from, head-counted, by-head, by_entries, by-spare, check-refused, check-taken}
use Rattle.ledger.proofs.page.check.exactly.Goals as goal
use Rattle.ledger.proofs.page.check.exactly.Goals.{After-first_set-set, Else-set-lt-CHECK, In_ok-head_fault}

-- `exactly`: the head, the entries and the spare bytes in turn.
no-head : (c : In_ok-head_fault) → head_fault c.args.bytes.now ≡ clear
no-head c = sym c.in_ok-head_fault.ensures

counted : (c : In_ok-head_fault) → Counted c.args.bytes.now
counted c = head-counted _ (no-head c)

-- where the spare bytes begin, and what stands there
spare : (c : After-first_set-set) → c.spare_at-spare.result ≡ spare_from c.args.bytes.now
spare c =
    let p = c.args.bytes.now in
    omega (arith, c.spare_at-spare.ensures, c.reads.ensures, c.writes.ensures, count-reads p, count-writes p)

searched : (c : After-first_set-set)
    → let p = c.args.bytes.now in
    c.first_set-set.result ≡ first_in (set? p) (spare_from p) 508
searched c =
    let p = c.args.bytes.now in
    c.first_set-set.ensures ∙ ap (λ n. first_in (set? p) n 508) (spare c)

last : (c : After-first_set-set)
    → let p = c.args.bytes.now in
    page_fault p ≡ first (spare_row p ∷ [])
last c = by-spare _ (sym c.in_ok-head_fault.ensures) (sym c.in_ok-entry_fault.ensures)

pub returns-in_err-head_fault : goal.returns-in_err-head_fault
returns-in_err-head_fault c =
    ap outcome (handed c.from_residual.ensures.1) ∙ check-refused _ _ _ (by-head _ (sym c.in_err-head_fault.ensures))

pub invariant_of-page : goal.invariant_of-page
invariant_of-page c = record { counted = counted (goal.at.invariant_of-page c).In_ok-head_fault }

pub returns-in_err-entry_fault : goal.returns-in_err-entry_fault
returns-in_err-entry_fault c =
    ap outcome (handed c.from_residual-in_err-entry_fault.ensures.1)
    ∙ check-refused _ _ _ (by_entries _ (no-head (goal.at.returns-in_err-entry_fault c).In_ok-head_fault) (sym c.in_err-entry_fault.ensures))

pub spare_at-spare-requires : goal.spare_at-spare-requires
spare_at-spare-requires c =
    let g = counted (goal.at.spare_at-spare-requires c).In_ok-head_fault in
    let p = c.args.bytes.now in
    (omega (arith, c.reads.ensures, count-reads p, g.few-reads), omega (arith, c.writes.ensures, count-writes p, g.few-writes))

pub first_set-set-requires : goal.first_set-set-requires
first_set-set-requires c =
    let p = c.args.bytes.now in
    omega (arith, c.spare_at-spare.ensures, c.reads.ensures, c.writes.ensures, count-reads p, count-writes p, counted (goal.at.first_set-set-requires c).In_ok-head_fault)

pub returns-then-set-lt-CHECK : goal.returns-then-set-lt-CHECK
returns-then-set-lt-CHECK c = ap (λ r. outcome (Err r)) c.at.ensures ∙ check-refused _ _ _ (last (goal.at.returns-then-set-lt-CHECK c).After-first_set-set ∙ lowest_found 10 (λ i. i) _ _ 508 [] _ (searched (goal.at.returns-then-set-lt-CHECK c).After-first_set-set) c.if-set-lt-CHECK.true)

pub returns : goal.returns
returns c =
    check-taken _ _ c.counts.ensures
    (last (goal.at.returns c).After-first_set-set ∙ lowest_missed 10 (λ i. i) _ _ 508 [] _ (searched (goal.at.returns c).After-first_set-set) c.if-set-lt-CHECK.false ∙ empty_clear)
