-- The customer's third point: rules that are run one by one. Assumes nothing.
use Rattle.std.specs.Prelude.{ℕ, suc, not, List, [], ◌∷◌, ◌++◌, map, ◌≡◌, length, T}
use Rattle.lists.specs.Members.{◌∈◌}
use Rattle.ledger.specs.declared.Write.{Write}
use Rattle.ledger.specs.Tx.{Tx, keys_read, writer}
use Rattle.ledger.specs.declared.Entry.{Entry}
use Rattle.ledger.specs.State.{State, entry}
use Rattle.ledger.specs.Commit.{stamp, left, write}

-- "the entries it read": version and value of each key that it reads
unfoldable pub seen : State → Tx → List Entry
seen s x = map (entry s) (keys_read x)

-- for each page "any fixed rule whatever that makes its writes from the entries it read alone"
abbrev pub Rules : Type 0
Rules = ℕ → List Entry → List Write

-- "Run the rules one by one": the state after them; the rule at place p writes under version (n, p)
unfoldable pub run : (ℕ → Tx) → ℕ → ℕ → Rules → State → List ℕ → State
run b n p rule s [] = s
run b n p rule s (i ∷ is) = run b n (suc p) rule (write (stamp n p) s (rule i (seen s (b i)))) is

-- and the writes that each rule makes when its turn comes
unfoldable pub made : (ℕ → Tx) → ℕ → ℕ → Rules → State → List ℕ → List (List Write)
made b n p rule s [] = []
made b n p rule s (i ∷ is) = rule i (seen s (b i)) ∷ made b n (suc p) rule (write (stamp n p) s (rule i (seen s (b i)))) is

-- "that makes the writes on its page from the entries at the start of the batch": each of these transactions' rules does
abbrev pub Fits : (ℕ → Tx) → State → List ℕ → Rules → Type 0
Fits b s is rule = (i : ℕ) → i ∈ is → rule i (seen s (b i)) ≡ (b i).writes

-- what running the rules in the order os comes to
pub record Serial (b : ℕ → Tx) (n : ℕ) (s : State) (rule : Rules) (os : List ℕ) : Type 0 where
  -- "Each rule then makes the writes on its page"
  pub makes_page : made b n 0 rule s os ≡ map (λ i. (b i).writes) os
  -- "and each key ends as its last writer in that order leaves it"
  pub last-writer :
      (xs : List ℕ) (i : ℕ) (ys : List ℕ) → os ≡ xs ++ i ∷ ys →
      (w : Write) → w ∈ (b i).writes → ((u : ℕ) → u ∈ ys → T (not (writer (b u) w.key))) →
      entry (run b n 0 rule s os) w.key ≡ left (stamp n (length xs)) w
  -- a key that none of them writes ends as it began
  pub unwritten : (k : ℕ) → ((u : ℕ) → u ∈ os → T (not (writer (b u) k))) → entry (run b n 0 rule s os) k ≡ entry s k
