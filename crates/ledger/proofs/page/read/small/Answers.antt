use native.Mathlib.Omega.{arith}
use Rattle.ledger.proofs.page.read.small.Goals as goal

pub returns : goal.returns
returns c i = omega (arith, c.type_inv.page i)
