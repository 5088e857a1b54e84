use mathlib.Core.Path.{◌≡◌}
use Prim.Native.Nat.{◌+◌}
use native.Mathlib.Omega.{arith}
use Rattle.octets.specs.Bytes.{weighed}
use Rattle.octets.proofs.Numbers.{check_most}
use Rattle.octets.proofs.weight.weigh.Goals as goal
use Rattle.octets.proofs.weight.weigh.Goals.{After-tail}

-- `weigh`: the rows and the bytes behind them are the whole sum.
whole : (c : After-tail) → c.weigh_rows.result + c.tail.result ≡ weighed c.args.p.now 508
whole c = omega (arith, c.weigh_rows.ensures, c.tail.ensures)

pub overflow_add-result : goal.overflow_add-result
overflow_add-result c =
    omega (arith, whole (goal.at.overflow_add-result c).After-tail, check_most c.args.p.now (λ i. omega (arith, c.type_inv.p i)))
