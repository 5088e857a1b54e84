use native.Mathlib.Nat.{add-sub_cancel_left}
use Prim.Native.Nat.{◌*◌}
use Rattle.ledger.proofs.layout.page_at.Goals as goal

pub returns : goal.returns
returns c = rw (add-sub_cancel_left (c.args.i * 512) 512)
