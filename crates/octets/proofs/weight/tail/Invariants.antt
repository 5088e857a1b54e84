use mathlib.Core.Path.{◌≡◌}
use Prim.Native.Nat.{◌≤◌, ◌+◌, ◌*◌}
use Rattle.octets.specs.Bytes.{weighed}
use Rattle.octets.proofs.weight.tail.Given as goal

-- `tail`: the sum so far, and a bound on it that keeps it within 32 bits.
abbrev pub invariant-loop-i : goal.invariant-loop-i
invariant-loop-i l = (weighed l.p 480 + l.sum ≡ weighed l.p l.i) × (l.sum ≤ 129540 * l.i)
