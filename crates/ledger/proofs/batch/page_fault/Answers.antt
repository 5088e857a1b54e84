use Rattle.std.specs.Slice.Iter.{chunks_exact_rest, chunks_exact_size}
use Rattle.refusals.proofs.Answers.{told}
use Rattle.ledger.proofs.Faults.{taken_none, refused-some}
use Rattle.ledger.proofs.Byte.{page-shown}
use Rattle.ledger.proofs.Gated.{good-at, bad_at}
use Rattle.ledger.proofs.Walked.{walking_begins, Walked, walked, walked_all}
use Rattle.refusals.specs.Fault.{fault}
use Rattle.refusals.specs.Outcome.{number_of}
use Rattle.ledger.specs.Gate.{pages, rows_at}
use Rattle.ledger.specs.Page.{page_at, page_fault}
use Rattle.ledger.specs.Services.{check_page}
use Rattle.refusals.proofs.Rows.{passed_begins, passed_on, each_at, each-clear}
use mathlib.Core.Path.{◌≡◌, sym, ap, ◌∙◌}
use native.Mathlib.Omega.{arith}
use Rattle.ledger.proofs.batch.page_fault.Goals as goal
use Rattle.ledger.proofs.batch.page_fault.Goals.{In-Some, In-Err}

-- the page of a turn
page : (c : In-Some) → Walked c.args.batch.now c.in-Some.bytes.now (chunks_exact_size c.next.new.self.iter) (chunks_exact_rest c.next.new.self.iter) c.loop-i.i-iterator.count
page c = walked c.loop-i.invariant.walking c.in-Some.ensures.steps.0

pub loop-i-init : goal.loop-i-init
loop-i-init c =
    let f = c.enumerate-i-items.ensures in
    rw (c.into_iter-i-iterator.ensures.into_iter_gives, f.source, f.count)
    (record {
      walking = walking_begins c.chunks_exact.ensures.size c.chunks_exact.ensures.rest;
      passed = passed_begins _;
    })

pub loop-i-preserved : goal.loop-i-preserved
loop-i-preserved c =
    let p = page (goal.at.loop-i-preserved c).In-Some in
    rw c.in-Some.ensures.steps.2
    (record {
      walking = p.walking;
      passed = passed_on c.loop-i.invariant.passed (good-at _ _ (taken_none _ _ (c.in_default.ensures ∙ ap check_page p.is_page)));
    })

-- what was refused of page i, and that its place is a byte of the page
bad : (c : In-Err) → c.in-Some.bytes.now ≡ page_at c.args.batch.now c.loop-i.i-iterator.count
    → page_fault (page_at c.args.batch.now c.loop-i.i-iterator.count) ≡ fault (number_of c.in-Err.refusal.reason) c.in-Err.refusal.place
bad c is = refused-some _ _ _ (c.in-Err.ensures ∙ ap check_page is)

pub overflow_mul-i : goal.overflow_mul-i
overflow_mul-i c = omega (arith, c.requires, (page (goal.at.overflow_mul-i c).In-Some).room, c.in-Some.ensures.steps.1)

pub overflow_add-i : goal.overflow_add-i
overflow_add-i c =
    let at = goal.at.overflow_add-i c in
    let p = page at.In-Some in
    omega (arith, (page-shown _ (bad at.In-Err p.is_page)).1, c.requires, p.room, c.in-Some.ensures.steps.1)

pub returns-in-loop-i : goal.returns-in-loop-i
returns-in-loop-i c =
    let at = goal.at.returns-in-loop-i c in
    let p = page at.In-Some in
    let b = c.args.batch.now in
    let i = c.loop-i.i-iterator.count in
    told c.at.ensures
    ∙ rw c.in-Some.ensures.steps.1 (sym (each_at (rows_at b) (pages b) i p.within c.loop-i.invariant.passed.none (bad_at b i p.room (bad at.In-Err p.is_page))))

pub returns : goal.returns
returns c =
    let w = c.loop-i.invariant in
    let all = walked_all w.walking c.in-None.ensures.steps.0.1.0 in
    sym (each-clear (rows_at c.args.batch.now) (pages c.args.batch.now) (λ j l. w.passed.none j (omega (arith, all))))
