use native.Mathlib.Omega.{arith}
use Rattle.octets.proofs.Stored.{bytes_turn, bytes_end, put_bytes}
use Rattle.octets.proofs.bytes.put.Goals as goal

pub loop-b-preserved : goal.loop-b-preserved
loop-b-preserved c = bytes_turn _ _ _ _ _ (omega arith) (omega arith) c.loop-b.invariant

pub returns : goal.returns
returns c = put_bytes _ _ _ _ _ _ c.requires (omega arith) (bytes_end _ _ _ _ _ (omega arith) (omega arith) c.loop-b.invariant)
