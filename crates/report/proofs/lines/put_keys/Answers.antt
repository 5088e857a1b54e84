use native.Mathlib.Omega.{arith}
use Rattle.lists.specs.Tables.{flat}
use Rattle.ledger.specs.State.{lent}
use Rattle.report.proofs.Texts.{key_line_lem}
use Rattle.report.proofs.Puts.{none, more_lines}
use Rattle.report.proofs.lines.put_keys.Goals as goal

pub loop-key-init : goal.loop-key-init
unfolding flat
loop-key-init c = none _ _

pub loop-key-preserved : goal.loop-key-preserved
loop-key-preserved c =
    more_lines _ (omega arith) (key_line_lem (lent c.args.state) c.loop-key.key _ c.entry.ensures) c.loop-key.invariant c.put_key.ensures
