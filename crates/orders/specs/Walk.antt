-- Sets of page indexes given by a test K, as the code holds them: who is in them, the ways through them, and who comes next. Assumes nothing.
use Rattle.std.specs.Prelude.{◌≡◌, Bool, true, false, List, ℕ, ◌<◌}
use Rattle.lists.specs.Members.{◌∈◌}

-- K is passed by the members of is, and by no other
pub record Lists (K : ℕ → Bool) (is : List ℕ) : Type 0 where
  pub listed : (x : ℕ) → K x ≡ true → x ∈ is
  pub held : (x : ℕ) → x ∈ is → K x ≡ true

-- a way of demands from a to b, each stop between them in K
pub data Way (before : ℕ → ℕ → Bool) (K : ℕ → Bool) : ℕ → ℕ → Type 0 where
  last : {a b : ℕ} → before a b ≡ true → Way before K a b
  step : {a d b : ℕ} → before a d ≡ true → K d ≡ true → Way before K d b → Way before K a b

-- p is in K, and no one in K must stand before it
pub record Free (before : ℕ → ℕ → Bool) (K : ℕ → Bool) (p : ℕ) : Type 0 where
  pub isin : K p ≡ true
  pub clear : (q : ℕ) → K q ≡ true → before q p ≡ false

-- p is the lowest of K that is free
pub record Next (before : ℕ → ℕ → Bool) (K : ℕ → Bool) (p : ℕ) : Type 0 where
  pub free : Free before K p
  pub least : (d : ℕ) → d < p → Free before K d → ⊥
