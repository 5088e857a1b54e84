-- "value 0", the number zero. Assumes nothing.
use Rattle.std.specs.Prelude.{Bool, false, eqb, ℤ, pos, negsuc}

-- a value is 0
abbrev pub is_zero : ℤ → Bool
is_zero (pos n) = eqb n 0
is_zero (negsuc n) = false
