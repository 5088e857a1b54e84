use mathlib.Core.Path.{◌≡◌, ap, ◌∙◌}
use mathlib.Core.List.{[], ◌∷◌}
use Prim.Native.Nat.{ℕ}
use native.Mathlib.Omega.{arith}
use Rattle.report.proofs.Puts.{in_room, puts_as}
use Rattle.report.proofs.Parts.{placed_some, placed_none}
use Rattle.report.proofs.lines.put_place.Goals as goal

pub returns-in-Some : goal.returns-in-Some
returns-in-Some c = puts_as (placed_some _ _ _ c.in-Some.ensures) c.put_number.ensures

pub returns-in-None : goal.returns-in-None
returns-in-None c = puts_as (ap (λ (b : ℕ). b ∷ []) (omega (arith, c.requires.few)) ∙ placed_none _ _ c.in-None.ensures) (in_room (omega arith) c.put_byte.ensures)
