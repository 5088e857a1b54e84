use Prim.Native.Nat.{◌+◌, ◌*◌, ◌≤◌}
use lib.ListN.{get_or}
use native.Mathlib.Omega.{arith}
use Rattle.octets.proofs.Numbers.{term_le, weighed-next}
use Rattle.octets.proofs.weight.tail.Goals as goal

pub loop-i-preserved : goal.loop-i-preserved
loop-i-preserved c =
    let i = c.loop-i.i in
    let term : (i + 1) * get_or c.args.p.now i 0 ≤ 129540 = term_le (omega arith) (omega (arith, c.type_inv.p i)) in
    (omega (arith, weighed-next c.args.p.now i), omega arith)
