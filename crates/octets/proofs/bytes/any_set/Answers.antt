use Prim.Native.Nat.{◌-◌}
use native.Mathlib.Omega.{arith}
use Rattle.octets.proofs.Joined.{joined_turns, joined-ends}
use Rattle.octets.proofs.Numbers.{byte_at}
use Rattle.octets.proofs.bytes.any_set.Goals as goal

pub loop-b-preserved : goal.loop-b-preserved
loop-b-preserved c =
    joined_turns _ _ _ _ _ c.loop-b.invariant (omega arith) _ _ (byte_at c.args.p.now c.args.from (c.args.to - c.args.from) c.loop-b.b-index (omega arith)) (omega arith)

pub returns : goal.returns
returns c = joined-ends _ _ _ _ _ c.loop-b.invariant (omega arith)
