use mathlib.Core.Path.{refl, sym, ap, ◌∙◌}
use Prim.Native.Nat.{◌*◌, ◌<◌}
use native.Mathlib.Omega.{arith}
use lib.ListN.{length}
use Rattle.ledger.proofs.Placed.{part_long}
use Rattle.ledger.proofs.Gated.{page_long}
use Rattle.planning.specs.Plan.{gathered}
use Rattle.planner.proofs.Filling.{gathers, gathered_all}
use Rattle.planner.proofs.fill.fill_out.Goals as goal

pub loop-j-init : goal.loop-j-init
unfolding gathered
loop-j-init c = refl

pub copy-requires : goal.copy-requires
copy-requires c =
    let here : c.loop-j.j < length c.args.order.now = omega arith in
    ap length c.page_at.ensures ∙ page_long _ _ (c.requires.by_index _ here) ∙ sym (part_long c.loop-j.out (c.loop-j.j * 512) (omega (arith, c.requires.room)))

pub loop-j-preserved : goal.loop-j-preserved
loop-j-preserved c =
    gathers _ _ c.requires.by_index c.loop-j.j _ _ _ (omega arith) c.loop-j.invariant (c.copy.ensures ∙ c.page_at.ensures)

pub returns : goal.returns
returns c = gathered_all _ _ c.loop-j.j _ _ (omega arith) c.loop-j.invariant
