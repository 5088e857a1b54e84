use mathlib.Core.Path.{◌≡◌, sym}
use Prim.Native.Nat.{◌<◌}
use native.Mathlib.Omega.{arith}
use lib.ListN.{length}
use borrow.Author.Rules.{rules}
use Rattle.lists.proofs.Tests.{clash}
use Rattle.sets.proofs.Laws.{within, without-lt}
use Rattle.planner.proofs.Placing.{begins, room, turns, all, ends}
use Rattle.planner.proofs.schedule.fill_order.Goals as goal
use Rattle.planner.proofs.schedule.fill_order.Goals.{In-Some, In_default, After-without-left}

-- the next is below 64, and there is room for it
small : (c : In-Some) → c.in-Some.p < 64
small c = within 64 _ _ c.loop-p.invariant.small c.in-Some.ensures.value.free.isin

fits : (c : After-without-left) → c.loop-p.k < length c.loop-p.order
fits c = room _ _ _ _ _ _ _ _ _ c.loop-p.invariant c.in-Some.ensures.value c.without-left.ensures c.requires.kept_in_bounds

-- none is left
over : (c : In_default) → c.loop-p.left ≡ 0
over c = let empty : 0 < c.loop-p.left → ⊥ = λ h. clash (sym (c.in_default.ensures.some.1 h)) in omega arith

pub loop-p-init : goal.loop-p-init
loop-p-init c = begins _ _ _ _ (omega arith) c.requires.kept_value

pub without-left-requires : goal.without-left-requires
without-left-requires c = small (goal.at.without-left-requires c).In-Some

pub bounds-pages-p : goal.bounds-pages-p
bounds-pages-p c = small (goal.at.bounds-pages-p c).In-Some

pub bounds-order-k : goal.bounds-order-k
bounds-order-k c = fits (goal.at.bounds-order-k c).After-without-left

pub loop-p-smaller : goal.loop-p-smaller
loop-p-smaller c = without-lt _ _ _ c.in-Some.ensures.value.free.isin c.without-left.ensures

pub loop-p-preserved : goal.loop-p-preserved
loop-p-preserved c =
    turns _ _ _ _ _ _ _ _ _ c.loop-p.invariant c.in-Some.ensures.value c.without-left.ensures (search rules) (fits (goal.at.loop-p-preserved c).After-without-left)

pub returns-clause-value : goal.returns-clause-value
returns-clause-value c = all _ _ _ _ _ _ (rw (over (goal.at.returns-clause-value c).In_default) at c.loop-p.invariant)

pub returns-clause-order_after : goal.returns-clause-order_after
returns-clause-order_after c = ends _ _ _ _ _ _ (rw (over (goal.at.returns-clause-order_after c).In_default) at c.loop-p.invariant)
