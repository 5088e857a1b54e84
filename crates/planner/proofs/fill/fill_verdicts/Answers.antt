use mathlib.Core.Path.{refl, ap₂, ◌∙◌}
use native.Mathlib.Omega.{arith}
use lib.ListN.{set}
use mathlib.Core.Bool.{cond}
use Rattle.lists.specs.Tables.{tab}
use Rattle.ledger.specs.declared.verdict.Verdict.TheVariants.{Kept, Stale, Cycle}
use Rattle.planner.proofs.Filling.{told, fills, filled_all}
use Rattle.planner.proofs.fill.fill_verdicts.Goals as goal

pub loop-i-init : goal.loop-i-init
unfolding tab
loop-i-init c = refl

pub loop-i-preserved : goal.loop-i-preserved
loop-i-preserved c =
    let h = c.loop-i in
    let v = told _ _ _ (c.verdict.ensures ∙ ap₂ (λ a b. cond a (cond b Kept Cycle) Stale) c.has.ensures c.has-in-loop-i.ensures) in
    ap₂ (λ l x. set l h.i x) h.invariant v ∙ fills _ h.i _ (omega arith)

pub returns : goal.returns
returns c = filled_all _ c.loop-i.i _ _ (omega arith) c.loop-i.invariant
