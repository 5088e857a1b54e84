use mathlib.Core.Path.{◌≡◌}
use mathlib.Core.List.{◌++◌}
use Prim.Native.Nat.{◌-◌}
use lib.ListN.{take}
use Rattle.octets.specs.Bytes.{le}
use Rattle.octets.proofs.bytes.put.Given as goal

-- `put`: the bytes of the number are those stored so far, and those of what is left of it.
abbrev pub invariant-loop-b : goal.invariant-loop-b
invariant-loop-b l = le l.count l.v ≡ take l.b-index l.b-items ++ le (l.count - l.b-index) l.rest
