use mathlib.Core.Path.{◌∙◌}
use native.Mathlib.Omega.{arith}
use Rattle.octets.proofs.Numbers.{weighed_used}
use Rattle.octets.proofs.weight.weigh_used.Goals as goal

pub returns-then-used : goal.returns-then-used
returns-then-used c = c.weigh_rows.ensures ∙ weighed_used _ _ _ (omega arith) (omega arith) c.requires.1

pub returns-then-used-2 : goal.returns-then-used-2
returns-then-used-2 c = c.weigh_rows-then-used-2.ensures ∙ weighed_used _ _ _ (omega arith) (omega arith) c.requires.1
