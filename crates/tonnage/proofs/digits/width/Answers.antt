use mathlib.Core.Path.{sym}
use native.Mathlib.Omega.{arith}
use Rattle.tonnage.proofs.Runs.{width_one, width_between}
use Rattle.tonnage.proofs.digits.width.Goals as goal

pub returns-in-Some : goal.returns-in-Some
returns-in-Some c =
    let k = c.in-Some.ensures in
    (sym (width_between _ c.args.n k.power_le k.next_power_gt), omega (arith, k.bound))

pub returns-in-None : goal.returns-in-None
returns-in-None c = (sym (width_one c.args.n (omega (arith, c.in-None.ensures.none))), omega arith)
