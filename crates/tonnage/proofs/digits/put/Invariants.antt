use mathlib.Core.Path.{◌≡◌}
use lib.ListN.{length}
use lib.Seq.{sets}
use Rattle.tonnage.specs.Text.{digits}
use Rattle.tonnage.proofs.digits.put.Given as goal

-- `put`: the last digit first. Invariant: what is left, stored before the digits that stand, gives the whole run.
abbrev pub invariant-loop-i : goal.invariant-loop-i
invariant-loop-i l = (length l.text ≡ length l.initial.text) × (sets l.initial.text l.at (digits l.count l.n) ≡ sets l.text l.at (digits l.i l.left))
