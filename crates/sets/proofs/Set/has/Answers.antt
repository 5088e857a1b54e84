use mathlib.Core.Path.{ap}
use Prim.Native.Nat.{ℕ, ◌/◌, ◌^◌}
use lib.Dec.{eqb}
use lib.Bits.{and_mask}
use Rattle.sets.specs.Set.{member}
use Rattle.sets.proofs.Set.has.Goals as goal

pub returns : goal.returns
unfolding member
returns c = rw (← c.self.view_is) (ap (λ (x : ℕ). eqb x 1) (and_mask (c.self.inside.0 / 2 ^ c.args.i) 1))
