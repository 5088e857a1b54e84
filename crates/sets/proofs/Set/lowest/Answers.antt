use native.Mathlib.Omega.{arith}
use Rattle.sets.proofs.Digits.{of_trailing}
use Rattle.sets.proofs.Set.lowest.Goals as goal

pub returns : goal.returns
returns c =
    let l = of_trailing 64 c.self.inside.0 (rw c.self.view_is c.requires) (omega arith) in
    rw (← c.self.view_is) (record { small = l.0; isin = l.1; least = l.2 })
