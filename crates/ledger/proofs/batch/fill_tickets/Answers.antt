use Prim.Native.Nat.{◌<◌}
use Rattle.std.specs.Slice.Iter.{chunks_exact_rest, chunks_exact_size}
use Rattle.ledger.proofs.Tickets.{gathering_begins, gathering_turns}
use Rattle.ledger.proofs.Walked.{walking_begins, Walked, walked, walked_all}
use Rattle.ledger.specs.Page.{page_tx}
use lib.ListN.{length}
use mathlib.Core.Path.{ap, ◌∙◌}
use native.Mathlib.Omega.{arith}
use Rattle.ledger.proofs.batch.fill_tickets.Goals as goal
use Rattle.ledger.proofs.batch.fill_tickets.Goals.{In-Some}

-- the page of a turn
page : (c : In-Some) → Walked c.args.batch.now c.in-Some.bytes.now (chunks_exact_size c.next.new.self.iter) (chunks_exact_rest c.next.new.self.iter) c.loop-i.i-iterator.count
page c = walked c.loop-i.invariant.walking c.in-Some.ensures.steps.0

-- there is a ticket for it
within : (c : In-Some) → c.loop-i.i-iterator.count < length c.args.tickets.now
within c = omega (arith, (page c).within, c.requires)

pub loop-i-init : goal.loop-i-init
loop-i-init c =
    let f = c.enumerate-i-items.ensures in
    rw (c.into_iter-i-iterator.ensures.into_iter_gives, f.source, f.count)
    (record {
      walking = walking_begins c.chunks_exact.ensures.size c.chunks_exact.ensures.rest;
      gathering = gathering_begins _ _;
    })

pub ticket-requires : goal.ticket-requires
ticket-requires c = omega (arith, (page (goal.at.ticket-requires c).In-Some).long)

pub bounds-tickets-i : goal.bounds-tickets-i
bounds-tickets-i c = omega (arith, within (goal.at.bounds-tickets-i c).In-Some, c.loop-i.invariant.gathering.many, c.in-Some.ensures.steps.1)

pub loop-i-preserved : goal.loop-i-preserved
loop-i-preserved c =
    let at = goal.at.loop-i-preserved c in
    let p = page at.In-Some in
    rw (c.in-Some.ensures.steps.2, c.in-Some.ensures.steps.1)
    (record {
      walking = p.walking;
      gathering = gathering_turns _ c.loop-i.invariant.gathering (within at.In-Some) (c.ticket.ensures ∙ ap (λ x. (page_tx x).ticket) p.is_page);
    })

pub shape_of-tickets : goal.shape_of-tickets
shape_of-tickets c = c.loop-i.invariant.gathering.many

pub returns : goal.returns
returns c =
    let w = c.loop-i.invariant in
    let all = walked_all w.walking c.in-None.ensures.steps.0.1.0 in
    record { each = λ j l. w.gathering.front.each j (omega (arith, all)) }
