-- Lists by index: the values of a function at 0, 1, .. in turn; and one list laid over the front of another. Assumes nothing.
use Rattle.std.specs.Prelude.{ℕ, zero, suc, List, [], ◌∷◌, ◌++◌, length, drop}

-- f 0, f 1, .. f (n - 1)
unfoldable pub tab : {X : Type 0} → ℕ → (ℕ → X) → List X
tab zero f = []
tab (suc n) f = tab n f ++ (f n ∷ [])

-- the bytes f 0, f 1, .. f (n - 1) after one another
unfoldable pub flat : ℕ → (ℕ → List ℕ) → List ℕ
flat zero f = []
flat (suc n) f = flat n f ++ f n

-- the numbers below m, rising
abbrev pub upto : ℕ → List ℕ
upto m = tab m (λ i. i)

-- what is filled in from the front, and behind it what was there
abbrev pub filled : {X : Type 0} → List X → List X → List X
filled front old = front ++ drop (length front) old
