use mathlib.Core.Path.{◌∙◌}
use native.Mathlib.Omega.{arith}
use Rattle.octets.proofs.Columns.{columned_begins, columned_ends, columned_turns}
use Rattle.octets.proofs.weight.weigh_rows.Goals as goal

pub loop-r-init : goal.loop-r-init
loop-r-init c = columned_begins _ _ c.requires.0

pub loop-r-preserved : goal.loop-r-preserved
loop-r-preserved c =
    columned_turns _ _ _ _ _ c.loop-r.invariant c.loop-r-test.true _ _ (λ i. omega (arith, c.type_inv.p i)) c.add.ensures

pub returns : goal.returns
returns c = c.weigh.ensures ∙ columned_ends _ _ _ _ _ c.loop-r.invariant c.loop-r-test.false
