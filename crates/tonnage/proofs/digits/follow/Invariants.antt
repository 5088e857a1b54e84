use Prim.Native.Nat.{min}
use mathlib.Core.Path.{◌≡◌}
use lib.Seq.{slice}
use Rattle.tonnage.specs.Text.{follow, too_large}
use Rattle.tonnage.proofs.digits.follow.Given as goal

-- `follow`: what the digits so far write.
abbrev pub invariant-loop-i : goal.invariant-loop-i
invariant-loop-i l = l.sum ≡ min too_large (follow l.n (slice l.from l.i l.text))
