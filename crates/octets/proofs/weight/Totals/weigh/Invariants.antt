use mathlib.Core.Path.{◌≡◌}
use Prim.Native.Nat.{◌*◌, ◌≤◌}
use Rattle.octets.specs.Columns.{by_columns}
use Rattle.octets.proofs.weight.Totals.weigh.Given as goal

-- `weigh`: the columns so far, and a bound on their sum that keeps it within 32 bits.
abbrev pub invariant-loop-c : goal.invariant-loop-c
invariant-loop-c l = (l.total ≡ by_columns l.self.sums l.self.runs l.c) × (l.total ≤ 6291360 * l.c)
