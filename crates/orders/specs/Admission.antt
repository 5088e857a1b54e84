-- Admission one by one, over any relation and any sequence. Assumes nothing.
use Rattle.std.specs.Prelude.{Bool, cond, List, [], ◌∷◌, ℕ}
use Rattle.orders.specs.Chain.{cyclic}

-- "each .. is kept .. exactly when the demands among those kept so far and itself contain no cycle": the kept, the last first
unfoldable pub admit : (ℕ → ℕ → Bool) → List ℕ → List ℕ → List ℕ
admit before kept [] = kept
admit before kept (i ∷ is) = cond (cyclic before (i ∷ kept)) (admit before kept is) (admit before (i ∷ kept) is)
