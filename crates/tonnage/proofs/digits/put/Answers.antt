use mathlib.Core.Path.{sym, ◌∙◌}
use lib.ListN.{length-set}
use Rattle.tonnage.proofs.Runs.{put_last, put_none}
use Rattle.tonnage.proofs.digits.put.Goals as goal

pub loop-i-preserved : goal.loop-i-preserved
loop-i-preserved c =
    (simp length-set c.loop-i.invariant.0, c.loop-i.invariant.1 ∙ put_last c.loop-i.text _ c.loop-i.i _ c.loop-i-test.true)

pub returns : goal.returns
returns c =
    sym (c.loop-i.invariant.1 ∙ put_none c.loop-i.text _ c.loop-i.i _ c.loop-i-test.false)
