use Rattle.ledger.specs.State.{present_under}
use Rattle.lists.proofs.Loops.{joined_begins, joined_turns, joined-ends}
use mathlib.Core.Bool.{not}
use mathlib.Core.Path.{refl, ap, ◌∙◌}
use Rattle.ledger.proofs.state.State.is_present_throughout.Goals as goal

pub loop-k-init : goal.loop-k-init
loop-k-init c = joined_begins _ _

pub loop-k-preserved : goal.loop-k-preserved
loop-k-preserved c =
    joined_turns c.loop-k.invariant _ _ c.loop-k-test.true
    (ap not (c.is_present_under.ensures ∙ ap (present_under c.args.n) c.version.ensures)) refl

pub returns : goal.returns
returns c = ap not (joined-ends c.loop-k.invariant c.loop-k-test.false)
