-- A value of signed 64 bits is 0 exactly when its bits are. Assumes nothing.
use mathlib.Core.Path.{◌≡◌, refl, sym, ap, ◌∙◌}
use mathlib.Core.Bool.{true, false, false≢true}
use Prim.Native.Nat.{◌-◌, ◌^◌, suc}
use native.Mathlib.Omega.{arith}
use lib.Dec.{eqb}
use lib.IntN.{ℤ, pos, negsuc}
use mir.Syntax.{w64}
use mir.Val.{SFits, of_z}
use borrow.Author.Tests.{eqb-true, eq-eqb, ne_eqb}
use Rattle.ledger.specs.Value.{is_zero}

pub zero_bits : (z : ℤ) → SFits w64 z → eqb (of_z w64 z) 0 ≡ is_zero z
zero_bits (pos n) f = refl
zero_bits (negsuc n) f = ne_eqb (2 ^ 64 - suc n) 0 (λ e. absurd (omega (arith, f.sfits)))

-- as a test of the bits tells it
pub is_zero_lem : (z : ℤ) → SFits w64 z → of_z w64 z ≡ 0 → is_zero z ≡ true
is_zero_lem z f e = sym (zero_bits z f) ∙ eq-eqb (of_z w64 z) 0 e

pub not-zero : (z : ℤ) → SFits w64 z → (of_z w64 z ≡ 0 → ⊥) → is_zero z ≡ false
not-zero z f e = sym (zero_bits z f) ∙ ne_eqb (of_z w64 z) 0 e

-- a value that is zero is the number
pub zero_is : (z : ℤ) → is_zero z ≡ true → z ≡ pos 0
zero_is (pos n) e = ap pos (eqb-true n 0 e)
zero_is (negsuc n) e = absurd (false≢true e)
