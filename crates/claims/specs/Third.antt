-- Demand 3, over what a customer sees: a batch, a state, verdicts and an order. Assumes nothing.
use Rattle.std.specs.Prelude.{ℕ, ◌*◌, ◌<◌, ◌≤◌, false, ◌↔◌, ◌≡◌, length, get_or, take, drop, replicate, T, eqb}
use mathlib.Core.List.{List, ◌∷◌, ◌++◌, Permᴰ}
use Rattle.lists.specs.Members.{◌∈◌, those}
use Rattle.lists.specs.Tables.{upto}
use Rattle.refusals.specs.Outcome.{gives}
use Rattle.orders.specs.Chain.{Cycle}
use Rattle.orders.specs.Arrange.{Order}
use Rattle.ledger.specs.Tx.{Tx, reader, writer}
use Rattle.ledger.specs.State.{State, versions}
use Rattle.ledger.specs.Gate.{pages, tx_at}
use Rattle.ledger.specs.Commit.{commit_batch}
use Rattle.planning.specs.Plan.{current, before, gathered, Plans}
use Rattle.claims.specs.Serial.{Rules, Fits, run, Serial}

-- the verdict that a list has for page i; where it ends before i, 3, which is no verdict of a plan
abbrev pub verdict_at : List ℕ → ℕ → ℕ
verdict_at vs i = get_or vs i 3

-- "each transaction kept under 2": the pages with verdict 0
unfoldable pub zeros : List ℕ → List ℕ → List ℕ
zeros batch vs = those (λ i. eqb (verdict_at vs i) 0) (upto (pages batch))

-- "any order that puts each reader of a key before every other writer of it": the pages is, each once, and no one behind
-- i, other than i, reads a key that i writes. The fields below say it by `Order (before b) is os`: `order-words`.
pub record ReadersFirst (b : ℕ → Tx) (is os : List ℕ) : Type 0 where
  pub each_once : Permᴰ is os
  pub readers_first :
      (xs : List ℕ) (i : ℕ) (ys : List ℕ) → os ≡ xs ++ i ∷ ys →
      (u : ℕ) → u ∈ ys → (u ≡ i → ⊥) → (k : ℕ) → T (writer (b i) k) → T (reader (b u) k) → ⊥

-- what is certain of the verdicts vs and the order os of a batch, on the state s under n, whoever made them
pub record Third (batch : List ℕ) (s : State) (n : ℕ) (vs os : List ℕ) : Type 0 where
  -- "Give each .. any fixed rule whatever .. Run the rules one by one, in any order that puts each reader of a key
  -- before every other writer of it."
  pub any_order :
      (rule : Rules) → Fits (tx_at batch) s (zeros batch vs) rule →
      (ls : List ℕ) → Order (before (tx_at batch)) (zeros batch vs) ls →
      Serial (tx_at batch) n s rule ls
  -- "Our own order is such an order"
  pub ours : Order (before (tx_at batch)) (zeros batch vs) os
  -- "in it the state and its versions are those of our commit of the kept pages under the batch's number, which fails
  -- none of them": of the pages one after the other in that order, with verdicts enough for 14
  pub commits :
      (rule : Rules) → Fits (tx_at batch) s (zeros batch vs) rule → (ws : List ℕ) → length os ≤ length ws →
      commit_batch (gathered batch os) s n ws ≡ record {
        answer = gives (length os);
        state = run (tx_at batch) n 0 rule s os;
        verdicts = replicate (length os) 0 ++ drop (length os) ws;
      }
  -- "thrown out for a cycle": with each page of verdict 2 the kept ones have one, step by step
  pub closes : (i : ℕ) → i < pages batch → verdict_at vs i ≡ 2 → Cycle (before (tx_at batch)) (i ∷ zeros batch vs)
  -- "For a ticket thrown out for a cycle, no such order of the kept ones and that ticket exists."
  pub thrown_out :
      (i : ℕ) → i < pages batch → verdict_at vs i ≡ 2 →
      (ls : List ℕ) → Order (before (tx_at batch)) (i ∷ zeros batch vs) ls → ⊥

-- ---- what a plan leaves

-- a sequence of admission: each current page of the batch once, in any order
abbrev pub Sequence : List ℕ → State → List ℕ → Type 0
Sequence batch s seq = Permᴰ (those (current (versions s) (tx_at batch)) (upto (pages batch))) seq

-- what is certain of a plan p of the batch, on the state s under n, that keeps k
pub record Certain (batch : List ℕ) (s : State) (n k : ℕ) (p : Plans) : Type 0 where
  -- demand 3, with its verdicts and "the first k entries of the order list"
  pub third : Third batch s n p.verdicts (take k p.order)
  -- "the first 512k bytes of the out batch with the kept pages in that order"
  pub out-pages : take (512 * k) p.out ≡ gathered batch (take k p.order)
  -- "k the kept count"
  pub count : k ≡ length (zeros batch p.verdicts)
  -- "verdict 0", "verdict 1", "verdict 2": each page has one of them
  pub each-verdict : (i : ℕ) → i < pages batch → verdict_at p.verdicts i ≤ 2
  -- "A transaction is current when .. Others get verdict 1, stale": those, and no current one
  pub stale : (i : ℕ) → i < pages batch → (verdict_at p.verdicts i ≡ 1) ↔ (current (versions s) (tx_at batch) i ≡ false)
