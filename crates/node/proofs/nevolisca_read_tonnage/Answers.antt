use mathlib.Core.Path.{ap, ◌∙◌}
use mir.Facts.{to_z-of_z}
use mir.Syntax.{w64}
use native.Mathlib.Omega.{arith}
use lib.IntN.{ℤ}
use Rattle.node.proofs.Worded.{text-read, text-not}
use Rattle.node.proofs.nevolisca_read_tonnage.Goals as goal

pub returns-in-Ok : goal.returns-in-Ok
returns-in-Ok c =
    ap (λ (z : ℤ). record { word = 0; kilograms = z }) (to_z-of_z {w = w64} {z = c.in-Ok.value} (record { sfits = omega arith }))
    ∙ text-read _ _ _ c.read_tonnage.ensures _ c.in-Ok.is

pub returns-in-Err : goal.returns-in-Err
returns-in-Err c =
    text-not _ _ _ c.read_tonnage.ensures _ _ c.refused.ensures c.in-Err.is
