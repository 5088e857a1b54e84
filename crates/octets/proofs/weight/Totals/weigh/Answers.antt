use Prim.Native.Nat.{◌+◌, ◌*◌, ◌≤◌}
use borrow.Author.Rules.{rules}
use native.Mathlib.Omega.{arith}
use lib.ListN.{get_or}
use Rattle.octets.specs.Columns.{by_columns}
use Rattle.octets.proofs.Columns.{gathered_next, column_le}
use Rattle.octets.proofs.weight.Totals.weigh.Goals as goal

pub loop-c-init : goal.loop-c-init
unfolding by_columns
loop-c-init c = search rules

pub loop-c-preserved : goal.loop-c-preserved
loop-c-preserved c =
    let s = c.args.self.now.sums in
    let r = c.args.self.now.runs in
    let i = c.loop-c.c in
    let term : (i + 1) * get_or s i 0 ≤ 3145680 = column_le (omega arith) (c.requires.sums_lane i (omega arith)) in
    (omega (arith, gathered_next s r i), omega (arith, c.requires.runs_lane i (omega arith)))
