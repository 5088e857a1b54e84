use native.Mathlib.Omega.{arith}
use mathlib.Core.Path.{ap, ◌∙◌}
use lib.ListN.{length, length-set}
use lib.Seq.{length-sets}
use Rattle.ledger.proofs.page.fill.put_head.Goals as goal

pub bounds-p-1 : goal.bounds-p-1
bounds-p-1 c = simp length-set (omega arith)

pub bounds-p-2 : goal.bounds-p-2
bounds-p-2 c = simp length-set (omega arith)

pub bounds-p-3 : goal.bounds-p-3
bounds-p-3 c = simp length-set (omega arith)

pub shape_of-p : goal.shape_of-p
shape_of-p c = ap length c.put.ensures ∙ simp (length-sets, length-set)
