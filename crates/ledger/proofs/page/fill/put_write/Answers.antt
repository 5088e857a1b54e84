use native.Mathlib.Omega.{arith}
use mir.Syntax.{w64}
use mir.Val.{of_z}
use mir.Facts.{to_z-of_z}
use Rattle.octets.proofs.Stored.{puts}
use Rattle.ledger.proofs.page.fill.put_write.Goals as goal

pub returns : goal.returns
returns c =
    let a = c.args in
    let v = to_z-of_z {w = w64} {z = a.x.value} (record { sfits = omega arith }) in
    rw (c.put-3.ensures, c.put-2.ensures, c.put.ensures, c.bits.ensures, v)
    (puts a.p.now a.at a.x.key a.x.kind 8 (of_z w64 a.x.value))
