use mir.Syntax.{w64}
use mir.Facts.{to_z-of_z}
use Rattle.ledger.proofs.page.content.write_at.Goals as goal

pub returns : goal.returns
returns c = cc (to_z-of_z {w = w64} {z = c.signed.result} (record { sfits = c.signed.type_inv }))
