-- What the node's services return, in the words of include/nevolisca.h. Assumes nothing.
use Rattle.std.specs.Prelude.{ℕ, ◌+◌, ◌*◌, ◌/◌, ◌%◌, ◌≤◌, ◌<◌, ◌≡◌}
use Rattle.refusals.specs.Outcome.{Outcome, gives, refuses}

-- "Refused: the refusal number in the upper 32 bits, its place in the lower 32."
abbrev pub upper : ℕ → ℕ → ℕ
upper number place = number * 4294967296 + place

-- "Else: the upper 32 bits are 0; the lower 32 are the count or length named below, 0 where there is none."
abbrev pub word : Outcome ℕ → ℕ
word (gives k) = k
word (refuses n p) = upper n p

-- "The two halves of a word": NEVOLISCA_REFUSAL, and NEVOLISCA_PLACE or NEVOLISCA_COUNT
abbrev pub high : ℕ → ℕ
high w = w / 4294967296

abbrev pub low : ℕ → ℕ
low w = w % 4294967296

-- the halves of the word w give an outcome back: a refusal's number, one of the table's, and its place, or 0 and the count
pub record Told {A : Type 0} (count : A → ℕ) (o : Outcome A) (w : ℕ) : Type 0 where
  pub number : (n p : ℕ) → o ≡ refuses n p → (0 < n) × (n ≤ 20) × (high w ≡ n)
  pub place : (n p : ℕ) → o ≡ refuses n p → low w ≡ p
  pub counted : (a : A) → o ≡ gives a → (high w ≡ 0) × (low w ≡ count a)
