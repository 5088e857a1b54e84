-- Numbers in a list of bytes, "All numbers little-endian". Assumes nothing.
use Rattle.std.specs.Prelude.{ℕ, zero, suc, ◌+◌, ◌*◌, ◌/◌, ◌%◌, ◌<◌, Bool, not, List, [], ◌∷◌, get_or, eqb}

-- the number in the n bytes from `at` on, the lowest byte first
unfoldable pub field : List ℕ → ℕ → ℕ → ℕ
field p at zero = 0
field p at (suc n) = get_or p at 0 + 256 * field p (suc at) n

-- a number as n bytes, the lowest first
unfoldable pub le : ℕ → ℕ → List ℕ
le zero v = []
le (suc n) v = v % 256 ∷ le n (v / 256)

-- "the sum over bytes 0 to 507 of (offset + 1) times the byte", here over the first n bytes
unfoldable pub weighed : List ℕ → ℕ → ℕ
weighed p zero = 0
weighed p (suc n) = weighed p n + (n + 1) * get_or p n 0

-- the byte at i is not zero
abbrev pub set? : List ℕ → ℕ → Bool
set? p i = not (eqb (get_or p i 0) 0)

-- each element is a byte: what any slice of bytes has
abbrev pub Small : List ℕ → Type 0
Small p = (i : ℕ) → get_or p i 0 < 256
