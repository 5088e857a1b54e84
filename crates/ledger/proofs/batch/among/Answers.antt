use Rattle.lists.proofs.Loops.{joined_begins, joined_turns, joined-ends}
use mathlib.Core.Path.{refl}
use Rattle.ledger.proofs.batch.among.Goals as goal

pub loop-other-init : goal.loop-other-init
loop-other-init c = joined_begins _ _

pub loop-other-preserved : goal.loop-other-preserved
loop-other-preserved c = joined_turns c.loop-other.invariant _ _ c.loop-other-test.true refl refl

pub returns : goal.returns
returns c = joined-ends c.loop-other.invariant c.loop-other-test.false
