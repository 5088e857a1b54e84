use native.Mathlib.Omega.{arith}
use mathlib.Core.Path.{◌≡◌, refl}
use mathlib.Core.Bool.{Bool, true, false, not, ◌&&◌}
use lib.Dec.{eqb}
use borrow.Author.Tests.{eq-eqb, ne_eqb}
use Rattle.ledger.proofs.Zero.{is_zero_lem, not-zero}
use Rattle.ledger.proofs.rules.kind_wrong.Goals as goal

-- `kind_wrong`: a put is right, a value makes anything else wrong, and without one the kind decides.
with_value : (b : Bool) → true ≡ not (b && false)
with_value true = refl
with_value false = refl

without : (b : Bool) → not b ≡ not (b && true)
without true = refl
without false = refl

pub returns-then-x-eq-PUT : goal.returns-then-x-eq-PUT
returns-then-x-eq-PUT c = rw (eq-eqb _ 0 c.if-x-eq-PUT.true)

pub returns-then-x-ne0 : goal.returns-then-x-ne0
returns-then-x-ne0 c =
    rw (ne_eqb _ 0 c.if-x-eq-PUT.false, not-zero c.args.x.value (record { sfits = omega arith }) c.if-x-ne0.true) (with_value (eqb c.args.x.kind 1))

pub returns : goal.returns
returns c =
    rw (ne_eqb _ 0 c.if-x-eq-PUT.false, is_zero_lem c.args.x.value (record { sfits = omega arith }) c.if-x-ne0.false) (without (eqb c.args.x.kind 1))
