use Prim.Native.Nat.{◌+◌}
use Rattle.octets.proofs.Joined.{Joined}
use Rattle.octets.proofs.bytes.any_set.Given as goal

-- `any_set`: the bytes so far, joined.
abbrev pub invariant-loop-b : goal.invariant-loop-b
invariant-loop-b l = Joined l.p l.from l.to l.all (l.from + l.b-index)
