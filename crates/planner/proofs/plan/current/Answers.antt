use mathlib.Core.Path.{◌≡◌, sym, ap, ◌∙◌}
use native.Mathlib.Omega.{arith}
use Rattle.std.specs.Slice.Iter.{chunks_exact_rest, chunks_exact_size}
use Rattle.ledger.specs.Page.{page_tx, page_at}
use Rattle.ledger.specs.State.{lent, versions}
use Rattle.ledger.specs.Gate.{pages, tx_at}
use Rattle.ledger.specs.Commit.{passes}
use Rattle.ledger.proofs.Pages.{good-counted}
use Rattle.ledger.proofs.Walked.{walking_begins, Walked, walked, walked_all}
use Rattle.planning.specs.Plan.{current}
use Rattle.planner.proofs.Surveying.{passed_none, passed-more, passed_less}
use Rattle.planner.proofs.plan.current.Goals as goal
use Rattle.planner.proofs.plan.current.Goals.{In-Some, After-passes}

-- the page of a turn
page : (c : In-Some) → Walked c.args.batch.now c.in-Some.bytes.now (chunks_exact_size c.next.new.self.iter) (chunks_exact_rest c.next.new.self.iter) c.loop-i.i-iterator.count
page c = walked c.loop-i.invariant.walking c.in-Some.ensures.steps.0

pub loop-i-init : goal.loop-i-init
loop-i-init c =
    let f = c.enumerate-i-items.ensures in
    rw (c.into_iter-i-iterator.ensures.into_iter_gives, f.source, f.count)
    (record {
      walking = walking_begins c.chunks_exact.ensures.size c.chunks_exact.ensures.rest;
      few = omega arith;
      passed = passed_none _;
    })

pub invariant_of-passes : goal.invariant_of-passes
invariant_of-passes c =
    let p = page (goal.at.invariant_of-passes c).In-Some in
    record { counted = rw p.is_page (good-counted _ (c.requires.batch.each _ p.within).good) }

pub passes-requires : goal.passes-requires
passes-requires c =
    let p = page (goal.at.passes-requires c).In-Some in
    record { ready = rw p.is_page (c.requires.batch.each _ p.within); places_len = c.requires.places_len }

-- whether it is current
found : (c : After-passes) → c.in-Some.bytes.now ≡ page_at c.args.batch.now c.loop-i.i-iterator.count
    → c.passes.result ≡ current (versions (lent c.args.state)) (tx_at c.args.batch.now) c.loop-i.i-iterator.count
found c is = c.passes.ensures ∙ ap (λ p. passes (versions (lent c.args.state)) (page_tx p)) is

pub loop-i-preserved-then-passes : goal.loop-i-preserved-then-passes
loop-i-preserved-then-passes c =
    let at = goal.at.loop-i-preserved-then-passes c in
    let p = page at.In-Some in
    let i = c.in-Some.ensures.steps.1 in
    rw c.in-Some.ensures.steps.2
    (record {
      walking = p.walking;
      few = omega (arith, p.within);
      passed = passed-more _ _ _ c.loop-i.i-iterator.count c.loop-i.invariant.passed (sym (found at.After-passes p.is_page) ∙ c.if-passes.true) (rw i at c.with-set.ensures);
    })

pub loop-i-preserved : goal.loop-i-preserved
loop-i-preserved c =
    let at = goal.at.loop-i-preserved c in
    let p = page at.In-Some in
    rw c.in-Some.ensures.steps.2
    (record {
      walking = p.walking;
      few = omega (arith, p.within);
      passed = passed_less _ _ c.loop-i.i-iterator.count c.loop-i.invariant.passed (sym (found at.After-passes p.is_page) ∙ c.if-passes.false);
    })

pub returns : goal.returns
returns c =
    let all = walked_all c.loop-i.invariant.walking c.in-None.ensures.steps.0.1.0 in
    let i : c.loop-i.i-iterator.count ≡ pages c.args.batch.now = omega (arith, all, c.loop-i.invariant.few) in
    rw i at c.loop-i.invariant.passed
