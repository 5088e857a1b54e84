use mathlib.Core.Path.{sym, ap, ◌∙◌}
use mathlib.Core.Bool.{◌||◌}
use Prim.Native.Nat.{ℕ}
use native.Mathlib.Omega.{arith}
use Rattle.std.proofs.lemmas.List.{get_or_default}
use native.Mathlib.Numerals.{add-one}
use Rattle.lists.specs.Tables.{tab}
use Rattle.lists.proofs.Tests.{clash}
use Rattle.orders.specs.Admission.{admit}
use Rattle.orders.proofs.Worklist.{holds_none, keeps, drops, awaits_more}
use Rattle.sets.specs.Set.{member}
use Rattle.sets.proofs.Laws.{none}
use Rattle.planner.proofs.admission.admitted.Goals as goal
use Rattle.planner.proofs.admission.admitted.Goals.{then-not-closes_cycle, else-not-closes_cycle}

pub loop-t-init : goal.loop-t-init
unfolding tab admit
loop-t-init c = (holds_none _ none, λ j d k e. absurd (clash (sym k ∙ none d)))

pub loop-t-preserved : goal.loop-t-preserved
unfolding tab
loop-t-preserved c =
    let old = c.loop-t.invariant in
    let asked = c.closes_cycle.ensures in (
      rw add-one
          (elim c.if-not-closes_cycle.branch [
            | then-not-closes_cycle w ↦ keeps _ _ _ _ old.0 _ (λ p. clash (sym (asked.1 p) ∙ w.if-not-closes_cycle.true)) (λ j. ap (λ (m : ℕ). member m j) w.kept-is ∙ w.with-kept.ensures j)
            | else-not-closes_cycle w ↦ rw w.kept-is (drops _ _ _ _ old.0 (asked.0 w.if-not-closes_cycle.false))
          ]),
      elim c.if-not-closes_cycle.branch [
        | then-not-closes_cycle w ↦ awaits_more _ _ _ (member c.loop-t.awaited) _ _ old.1 (λ j. ap (λ (m : ℕ). member m j) w.kept-is ∙ w.with-kept.ensures j) (λ j. ap (λ (m : ℕ). member m j) w.awaited-is ∙ w.union-awaited.ensures j ∙ ap (λ (m : ℕ). member c.loop-t.awaited j || member m j) (get_or_default c.args.blockers.now c.loop-t.t _ 0 (omega arith)))
        | else-not-closes_cycle w ↦ rw (w.kept-is, w.awaited-is) old.1
      ],
    )
