use mathlib.Core.Path.{ap}
use Rattle.node.specs.Word.{upper}
use Rattle.node.proofs.refused.Goals as goal

pub returns : goal.returns
returns c = ap (λ n. upper n c.args.r.place) c.number.ensures
