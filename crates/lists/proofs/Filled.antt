-- Laws of an array that is filled with a list from the front. Assumes nothing.
use mathlib.Core.Path.{◌≡◌, sym, ap, ◌∙◌}
use mathlib.Core.List.{List, ◌++◌}
use Prim.Native.Nat.{ℕ, suc, ◌+◌, ◌-◌, ◌<◌}
use native.Mathlib.Nat.{sub-zero}
use native.Mathlib.Numerals.{add-one}
use native.Mathlib.Omega.{arith}
use lib.ListN.{length, get_or, take, set, replicate}
use lib.Seq.{take-suc, length-take-le, set_at, append_snoc, take-length}

-- the first i elements of xs, and z in the rest of the n places
module _ {X : Type 0} (z : X) (xs : List X) (n : ℕ) where
  pub filled_none : replicate n z ≡ take 0 xs ++ replicate (n - 0) z
  filled_none = rw sub-zero

  pub filled_more : (i : ℕ) → i < length xs → i < n
      → set (take i xs ++ replicate (n - i) z) i (get_or xs i z) ≡ take (i + 1) xs ++ replicate (n - (i + 1)) z
  filled_more i h l =
      let e : n - i ≡ suc (n - suc i) = omega arith in
      rw (add-one, e, take-suc xs i z h)
      (set_at (take i xs) z (replicate (n - suc i) z) (get_or xs i z) i (length-take-le i xs (omega arith))
      ∙ sym (append_snoc (take i xs) (get_or xs i z) (replicate (n - suc i) z)))

  pub filled-all : take (length xs) xs ++ replicate (n - length xs) z ≡ xs ++ replicate (n - length xs) z
  filled-all = ap (λ (l : List X). l ++ replicate (n - length xs) z) (take-length xs)
