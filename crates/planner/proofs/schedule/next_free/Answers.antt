use mathlib.Core.Path.{◌≡◌, refl, sym, ap, ◌∙◌}
use mathlib.Core.Bool.{true}
use Prim.Native.Nat.{ℕ, ◌<◌}
use native.Mathlib.Omega.{arith}
use Rattle.lists.proofs.Tests.{clash}
use Rattle.sets.specs.Set.{member}
use Rattle.sets.proofs.Laws.{nonzero, without-lt}
use Rattle.std.proofs.lemmas.List.{get_or_default}
use Rattle.planner.proofs.Candidates.{held, blocked, found, never, asks, passes, unblocked}
use Rattle.planner.proofs.schedule.next_free.Goals as goal
use Rattle.planner.proofs.schedule.next_free.Goals.{In-Some}

-- the candidate is left
candidate : (c : In-Some) → (c.in-Some.p < 64) × (member c.args.left c.in-Some.p ≡ true)
candidate c = held _ _ _ _ _ _ c.tickets.invariant c.in-Some.ensures.steps

pub offset_bounds-blockers-p : goal.offset_bounds-blockers-p
offset_bounds-blockers-p c = let small = (candidate (goal.at.offset_bounds-blockers-p c).In-Some).0 in record { fits = omega arith }

pub listed : goal.listed
listed c = omega (arith, (candidate (goal.at.listed c).In-Some).0)

pub bounds-blockers-p : goal.bounds-blockers-p
bounds-blockers-p c = (candidate (goal.at.bounds-blockers-p c).In-Some).0

pub loop-q-init : goal.loop-q-init
loop-q-init c =
    asks _ _ _ _
    (λ q. ap (λ (m : ℕ). member m q) (sym (get_or_default c.args.blockers.now c.in-Some.p _ 0 (omega (arith, (candidate (goal.at.loop-q-init c).In-Some).0)))))

pub tickets-preserved : goal.tickets-preserved
tickets-preserved c =
    blocked _ _ _ _ _ _ c.tickets.invariant c.in-Some.ensures.steps _ (sym c.has.ensures ∙ c.if-has.true) (c.loop-q.invariant.block _ c.in-Some-first.ensures.value.isin)

pub loop-q-smaller : goal.loop-q-smaller
loop-q-smaller c = let low = c.in-Some-first.ensures.value in without-lt _ _ _ low.isin (c.drop_lowest-others.ensures _ low)

pub loop-q-preserved : goal.loop-q-preserved
loop-q-preserved c =
    passes _ _ _ _ _ _ c.loop-q.invariant (sym c.has.ensures ∙ c.if-has.false) (c.drop_lowest-others.ensures _ c.in-Some-first.ensures.value)

pub returns-in-tickets-clause-some : goal.returns-in-tickets-clause-some
returns-in-tickets-clause-some c = (λ _. nonzero _ _ (candidate (goal.at.returns-in-tickets-clause-some c).In-Some).1, λ _. refl)

pub returns-in-tickets-clause-value : goal.returns-in-tickets-clause-value
returns-in-tickets-clause-value c =
    let empty : 0 < c.loop-q.others → ⊥ = λ h. clash (sym (c.in_default.ensures.some.1 h)) in
    let e : c.loop-q.others ≡ 0 = omega arith in
    found _ _ _ _ _ _ c.tickets.invariant c.in-Some.ensures.steps (omega arith) (unblocked _ _ _ (rw e at c.loop-q.invariant))

pub returns-clause-some : goal.returns-clause-some
returns-clause-some c = (
  λ e. absurd (clash (sym e)),
  λ h. absurd (never _ _ _ (omega arith) c.requires (rw c.in-None.ensures.steps.0 at c.tickets.invariant) h),
)
