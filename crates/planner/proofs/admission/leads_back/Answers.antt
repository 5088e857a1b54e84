use mathlib.Core.Path.{◌≡◌, refl, sym, ap, ◌∙◌}
use mathlib.Core.Bool.{Bool, true, false, ◌&&◌, ◌||◌}
use Prim.Native.Nat.{ℕ, ◌<◌}
use borrow.Author.Rules.{rules}
use native.Mathlib.Omega.{arith}
use lib.ListN.{get_or}
use Rattle.lists.proofs.Tests.{clash, minus-some}
use Rattle.orders.proofs.Worklist.{begins, turns, finds, ends, way_back}
use Rattle.sets.specs.Set.{member}
use Rattle.sets.proofs.Laws.{none, with_lt}
use Rattle.std.proofs.lemmas.List.{get_or_default}
use Rattle.planner.proofs.admission.leads_back.Goals as goal
use Rattle.planner.proofs.admission.leads_back.Goals.{In-Some}

pub loop-d-init : goal.loop-d-init
loop-d-init c = (omega arith, begins _ _ _ _ _ c.only-reached.ensures none)

-- nothing is left to be walked: no way leads back
pub returns : goal.returns
returns c =
    let empty : 0 < c.minus.result → ⊥ = λ h. clash (sym (c.in_default.ensures.some.1 h)) in
    let e : c.minus.result ≡ 0 = omega arith in (
      λ t. absurd (clash (sym t)),
      λ p. absurd (ends _ _ _ _ _ c.loop-d.invariant.1 (λ j. sym (c.minus.ensures j) ∙ ap (λ (m : ℕ). member m j) e ∙ none j) (way_back _ p)),
    )

-- the d that is taken is reached and not done
found : (c : In-Some) → (member c.loop-d.reached c.in-Some.d ≡ true) × (member c.loop-d.done c.in-Some.d ≡ false)
found c = minus-some _ _ (sym (c.minus.ensures c.in-Some.d) ∙ c.in-Some.ensures.value.isin)

-- those that must stand before it
stops : (c : In-Some) (x : ℕ) → get_or c.args.blockers.now c.in-Some.d x ≡ get_or c.args.blockers.now c.in-Some.d 0
stops c x = get_or_default c.args.blockers.now c.in-Some.d x 0 (omega (arith, c.in-Some.ensures.value.small))

-- t must stand before one that is reached: a way leads back
pub returns-then-has : goal.returns-then-has
returns-then-has c =
    let at = goal.at.returns-then-has c in
    (λ e. way_back _ (finds _ _ _ _ _ _ c.loop-d.invariant.1 (found at.In-Some).0 (ap (λ (m : ℕ). member m c.args.t) (sym (stops at.In-Some _)) ∙ sym c.has.ensures ∙ c.if-has.true)), λ p. refl)

pub loop-d-smaller : goal.loop-d-smaller
loop-d-smaller c =
    omega (arith, with_lt c.loop-d.done c.with-done.result c.in-Some.d (found (goal.at.loop-d-smaller c).In-Some).1 c.with-done.ensures, c.with-done.type_inv)

pub loop-d-preserved : goal.loop-d-preserved
loop-d-preserved c =
    let at = goal.at.loop-d-preserved c in (
      search rules,
      turns _ _ _ _ _ _ _ _ c.loop-d.invariant.1 (found at.In-Some).0 (ap (λ (m : ℕ). member m c.args.t) (sym (stops at.In-Some _)) ∙ sym c.has.ensures ∙ c.if-has.false)
          (λ j. c.union-reached.ensures j ∙ ap (λ (b : Bool). member c.loop-d.reached j || b) (c.both.ensures j ∙ ap (λ (m : ℕ). member m j && member c.args.kept j) (stops at.In-Some _))) c.with-done.ensures,
    )
