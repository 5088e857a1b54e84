use Prim.Native.Nat.{ℕ, ◌^◌, ◌≤◌, ◌<◌}
use native.Mathlib.Omega.{arith}
use mathlib.Core.Path.{sym}
use borrow.Author.Rules.{rules}
use lib.ListN.{length, get_or}
use Rattle.sets.specs.Set.{member, members}
use Rattle.ledger.specs.State.{lent, versions}
use Rattle.ledger.specs.Gate.{pages, tx_at}
use Rattle.planner.specs.Ranks.{demands, nth, Sound}
use Rattle.planner.proofs.Steps.{one-ticket, Lined, lined, kept_acyclic, kept-few, filled-low}
use Rattle.planner.proofs.Answered.{batch_sound, lined_ranked, front_ranked, front_ranks, plan-made}
use Rattle.planner.proofs.Filling.{filled-part}
use lib.Seq.{length-take-le, get_or-take}
use Rattle.planner.proofs.plan.plan_pages.Goals as goal
use Rattle.planner.proofs.plan.plan_pages.Goals.{After-admitted-kept, After-by_ticket-count, After-current-current, After-fill_order-k}

sound : (c : After-current-current) → Sound c.args.batch.now (pages c.args.batch.now)
sound c = batch_sound _ _ _ c.requires.batch

-- ranks stand for pages
line : (c : After-by_ticket-count) →
    Lined (λ i. (tx_at c.args.batch.now i).ticket) (member c.current-current.result) (pages c.args.batch.now) c.by_ticket-count.new.pages c.by_ticket-count.result
line c =
    lined (λ i. (tx_at c.args.batch.now i).ticket) (nth c.args.tickets.now) (member c.current-current.result) (pages c.args.batch.now) _ _
    c.requires.tickets_of.each c.requires.differ c.by_ticket-count.ensures.value c.by_ticket-count.ensures.pages_after

-- no more than there is room for
ranks-few : (c : After-by_ticket-count) → c.by_ticket-count.result ≤ length c.by_ticket-count.new.pages
ranks-few c = omega (arith, (line c).few, c.requires.batch.few, c.by_ticket-count.auto)

small : (c : After-admitted-kept) → c.admitted-kept.result < 2 ^ 64
small c = search rules

-- as many are placed as there is room for, each below m
placed_few : (c : After-admitted-kept) → length (members c.admitted-kept.result 64) ≤ (pages c.args.batch.now)
placed_few c =
    let l = lined (λ i. (tx_at c.args.batch.now i).ticket) (nth c.args.tickets.now) (member c.current-current.result) (pages c.args.batch.now) _ _
    c.requires.tickets_of.each c.requires.differ c.by_ticket-count.ensures.value c.by_ticket-count.ensures.pages_after in
    omega (arith, kept-few (demands c.blockers-blockers.result) _ _ (small c) c.admitted-kept.ensures, l.few)

low : (c : After-fill_order-k) (j : ℕ) → j < c.fill_order-k.result → get_or c.fill_order-k.new.order j 0 < (pages c.args.batch.now)
low c =
    let l = lined (λ i. (tx_at c.args.batch.now i).ticket) (nth c.args.tickets.now) (member c.current-current.result) (pages c.args.batch.now) _ _
    c.requires.tickets_of.each c.requires.differ c.by_ticket-count.ensures.value c.by_ticket-count.ensures.pages_after in
    let s : c.admitted-kept.result < 2 ^ 64 = search rules in
    filled-low (demands c.blockers-blockers.result) _ _ s c.admitted-kept.ensures _ _ _ _ l _ _ _ c.fill_order-k.ensures.value c.fill_order-k.ensures.order_after

pub by_ticket-count-requires : goal.by_ticket-count-requires
by_ticket-count-requires c = record {
  m_bound = c.requires.batch.few;
  room = omega (arith, c.requires.batch.few);
  tickets = one-ticket (λ i. (tx_at c.args.batch.now i).ticket) _ _ _ c.requires.tickets_of.each c.requires.differ;
}

pub slice_bounds-pages-end : goal.slice_bounds-pages-end
slice_bounds-pages-end c = ranks-few (goal.at.slice_bounds-pages-end c).After-by_ticket-count

pub slice_bounds-blockers-end : goal.slice_bounds-blockers-end
slice_bounds-blockers-end c = sym (length-take-le _ _ (ranks-few (goal.at.slice_bounds-blockers-end c).After-by_ticket-count))

pub blockers-blockers-requires : goal.blockers-blockers-requires
blockers-blockers-requires c = front_ranked _ _ _ (ranks-few (goal.at.blockers-blockers-requires c).After-by_ticket-count) (lined_ranked _ _ _ _ _ _ (line (goal.at.blockers-blockers-requires c).After-by_ticket-count) (sound (goal.at.blockers-blockers-requires c).After-current-current))

pub admitted-kept-requires : goal.admitted-kept-requires
admitted-kept-requires c = omega (arith, (line (goal.at.admitted-kept-requires c).After-by_ticket-count).few, (sound (goal.at.admitted-kept-requires c).After-current-current).few)

pub fill_order-k-requires : goal.fill_order-k-requires
fill_order-k-requires c = record {
  kept_in_bounds = omega (arith, placed_few (goal.at.fill_order-k-requires c).After-admitted-kept, c.requires.room);
  kept_value = kept_acyclic (demands c.blockers-blockers.result) _ _ (small (goal.at.fill_order-k-requires c).After-admitted-kept) c.admitted-kept.ensures;
}

pub slice_bounds-placed-end : goal.slice_bounds-placed-end
slice_bounds-placed-end c = omega (arith, placed_few (goal.at.slice_bounds-placed-end c).After-admitted-kept, c.fill_order-k.ensures.value, c.fill_order-k.auto.order, c.requires.room)

pub slice_bounds-placed-end-2 : goal.slice_bounds-placed-end-2
slice_bounds-placed-end-2 c =
    let f = c.fill_order-k in
    let fits : f.result ≤ length f.new.order = omega (arith, placed_few (goal.at.slice_bounds-placed-end-2 c).After-admitted-kept, f.ensures.value, f.auto.order, c.requires.room) in
    omega (arith, length-take-le f.result f.new.order fits)

pub placed-requires : goal.placed-requires
placed-requires c =
    let at = goal.at.placed-requires c in
    let f = c.fill_order-k in
    let fits : f.result ≤ length f.new.order = omega (arith, placed_few at.After-admitted-kept, f.ensures.value, f.auto.order, c.requires.room) in
    record {
      by_index = λ j h.
          let within : j < f.result = omega (arith, length-take-le f.result f.new.order fits) in
          omega (arith, get_or-take f.result f.new.order j 0 within, low at.After-fill_order-k j within, c.requires.batch.few);
    }

pub returns : goal.returns
returns c =
    plan-made c.args.batch.now (versions (lent c.args.state)) _ _ c.current-current.ensures
    _ c.blockers-blockers.result _ _ _ _ _ _ _ _ (line (goal.at.returns c).After-by_ticket-count) (front_ranks _ _ _ (ranks-few (goal.at.returns c).After-by_ticket-count) _ c.blockers-blockers.ensures) (small (goal.at.returns c).After-admitted-kept) c.admitted-kept.ensures c.fill_order-k.ensures.value c.fill_order-k.ensures.order_after
    c.placed.ensures (filled-part _ (pages c.args.batch.now) _ _ c.requires.room.0 c.fill_verdicts.ensures)
