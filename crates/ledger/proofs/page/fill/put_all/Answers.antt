use mathlib.Core.Path.{◌≡◌, refl, ap₂, ◌∙◌}
use Prim.Native.Nat.{◌+◌, ◌*◌}
use native.Mathlib.Nat.{le_antisymm}
use native.Mathlib.Omega.{arith}
use lib.ListN.{length, get_or}
use lib.Seq.{sets}
use Rattle.std.proofs.lemmas.List.{get_or_default}
use Rattle.lists.specs.Tables.{flat}
use Rattle.lists.proofs.Tables.{flat-more}
use Rattle.ledger.proofs.page.fill.put_all.Goals as goal

pub loop-i-init : goal.loop-i-init
unfolding flat
loop-i-init g c = refl

pub loop-i-preserved : goal.loop-i-preserved
loop-i-preserved g c =
    let e = g.E.PageEntry in
    let a = c.args in
    let i = c.loop-i.i in
    let long : length a.xs ≡ 32 = c.well_formed.1.1.0.1.0.1 in
    let x = get_or_default a.xs i c.index-xs-i.result e.NONE (omega (arith, c.requires)) in
    c.put.ensures
    ∙ ap₂ (λ s y. sets c.loop-i.p (a.at + s * i) (e.bytes y)) c.SIZE.ensures x
    ∙ rw c.loop-i.invariant (flat-more e.SIZE _ (λ k. g.met.E.PageEntry.long (get_or a.xs k e.NONE)) _ _ i)

pub returns : goal.returns
returns g c = c.loop-i.invariant ∙ rw (le_antisymm c.loop-i.auto.i-end c.loop-i-test.false)
