use mathlib.Core.Path.{◌≡◌, sym, ap, ◌∙◌}
use native.Mathlib.Omega.{arith}
use Rattle.std.specs.Slice.Iter.{chunks_exact_rest, chunks_exact_size}
use Rattle.lists.proofs.Loops.{begins, passes, gives-found, gives-none}
use Rattle.ledger.specs.Gate.{tx_at, beyond}
use Rattle.ledger.specs.Page.{page_tx, page_at}
use Rattle.ledger.proofs.Pages.{good-counted}
use Rattle.ledger.proofs.Walked.{walking_begins, Walked, walked, walked_all}
use Rattle.ledger.proofs.batch.first_beyond.Goals as goal
use Rattle.ledger.proofs.batch.first_beyond.Goals.{In-Some, After-reaches_beyond}

-- the page of a turn
page : (c : In-Some) → Walked c.args.batch.now c.in-Some.bytes.now (chunks_exact_size c.next.new.self.iter) (chunks_exact_rest c.next.new.self.iter) c.loop-i.i-iterator.count
page c = walked c.loop-i.invariant.walking c.in-Some.ensures.steps.0

-- what was asked of it
test : (c : After-reaches_beyond)
    → let a = c.args in
    c.in-Some.bytes.now ≡ page_at a.batch.now c.loop-i.i-iterator.count
    → c.reaches_beyond.result ≡ beyond a.keys (tx_at a.batch.now c.loop-i.i-iterator.count)
test c is = c.reaches_beyond.ensures ∙ ap (λ p. beyond c.args.keys (page_tx p)) is

pub loop-i-init : goal.loop-i-init
loop-i-init c =
    let f = c.enumerate-i-items.ensures in
    rw (c.into_iter-i-iterator.ensures.into_iter_gives, f.source, f.count)
    (record {
      walking = walking_begins c.chunks_exact.ensures.size c.chunks_exact.ensures.rest;
      unfound = begins _ _ _ (omega arith);
    })

pub invariant_of-reaches_beyond : goal.invariant_of-reaches_beyond
invariant_of-reaches_beyond c =
    let p = page (goal.at.invariant_of-reaches_beyond c).In-Some in
    record { counted = rw p.is_page (good-counted _ (c.requires _ p.within)) }

pub reaches_beyond-requires : goal.reaches_beyond-requires
reaches_beyond-requires c =
    let p = page (goal.at.reaches_beyond-requires c).In-Some in
    rw p.is_page (c.requires _ p.within)

pub returns-then-reaches_beyond : goal.returns-then-reaches_beyond
returns-then-reaches_beyond c =
    let at = goal.at.returns-then-reaches_beyond c in
    let p = page at.In-Some in
    rw c.in-Some.ensures.steps.1 (gives-found c.loop-i.invariant.unfound p.within (sym (test at.After-reaches_beyond p.is_page) ∙ c.if-reaches_beyond.true))

pub loop-i-preserved : goal.loop-i-preserved
loop-i-preserved c =
    let at = goal.at.loop-i-preserved c in
    let p = page at.In-Some in
    rw c.in-Some.ensures.steps.2
    (record {
      walking = p.walking;
      unfound = passes c.loop-i.invariant.unfound p.within (sym (test at.After-reaches_beyond p.is_page) ∙ c.if-reaches_beyond.false);
    })

pub returns : goal.returns
returns c = gives-none c.loop-i.invariant.unfound (walked_all c.loop-i.invariant.walking c.in-None.ensures.steps.0.1.0)
