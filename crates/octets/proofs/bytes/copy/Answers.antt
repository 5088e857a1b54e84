use mathlib.Core.Path.{◌≡◌, refl, ap, ◌∙◌}
use native.Mathlib.Omega.{arith}
use lib.ListN.{length, get_or, set}
use Rattle.lists.proofs.Stores.{copies, copies_long, copied}
use Rattle.octets.proofs.bytes.copy.Goals as goal
use Rattle.octets.proofs.bytes.copy.Goals.{At-loop-i}

long : (c : At-loop-i) → length c.loop-i.to ≡ length c.args.to.now
long c = rw c.loop-i.invariant (copies_long c.loop-i.i _ _ c.requires)

pub loop-i-init : goal.loop-i-init
loop-i-init c = refl

pub bounds-to-i : goal.bounds-to-i
bounds-to-i c = omega (arith, long (goal.at.bounds-to-i c).At-loop-i, c.loop-i-test.true, c.requires)

pub loop-i-preserved : goal.loop-i-preserved
loop-i-preserved c =
    ap (λ l. set l c.loop-i.i (get_or c.args.from.now c.loop-i.i 0)) c.loop-i.invariant
    ∙ copies c.loop-i.i _ _ (omega (arith, c.loop-i-test.true)) (omega (arith, c.loop-i-test.true, c.requires))

pub returns : goal.returns
returns c =
    let e : c.loop-i.i ≡ length c.args.from.now = omega (arith, c.loop-i-test.false) in
    copied c.loop-i.i _ _ _ e (e ∙ c.requires) c.loop-i.invariant
