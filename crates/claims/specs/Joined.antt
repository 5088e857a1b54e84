-- Document 02, 'E2: One call for the ordinary batch': the joined call beside the two calls. Assumes nothing.
use Rattle.std.specs.Prelude.{ℕ, ◌*◌, ◌≤◌, List, [], ◌∷◌, ◌≡◌, length, take}
use Rattle.refusals.specs.Outcome.{gives}
use Rattle.refusals.specs.Fault.{Row}
use Rattle.ledger.specs.State.{State}
use Rattle.ledger.specs.Gate.{pages, tx_at, lent_row, gate_rows}
use Rattle.ledger.specs.Commit.{commit_batch}
use Rattle.planning.specs.Plan.{short_lists, plan_batch}
use Rattle.planning.specs.Joined.{Joined, plan_and_commit}
use Rattle.claims.specs.Serial.{Rules, Fits, run}
use Rattle.claims.specs.Third.{zeros, Third}

-- "Refusals: order and numbers as for plan, without the out batch in 14": the table
abbrev pub joined_rows : List ℕ → State → ℕ → List ℕ → List ℕ → List Row
joined_rows batch s n vs os = gate_rows (lent_row (short_lists (pages batch) vs os) ∷ []) batch s n

-- "Its equality with the two calls, where neither is refused": with plan on some out batch, and commit of its kept pages
pub record TwoCalls (batch : List ℕ) (s : State) (n : ℕ) (vs os out : List ℕ) : Type 0 where
  -- "with the verdicts, order list and kept count of the plan": so the one is refused where the other is
  pub answer_is : (plan_and_commit batch s n vs os).answer ≡ (plan_batch batch s n vs os out).answer
  pub verdicts_are : (plan_and_commit batch s n vs os).verdicts ≡ (plan_batch batch s n vs os out).verdicts
  pub order_is : (plan_and_commit batch s n vs os).order ≡ (plan_batch batch s n vs os out).order
  -- "and the state that commit leaves on the out batch": commit, with verdicts enough for 14, is then not refused, and fails none
  pub commits :
      (k : ℕ) → (plan_batch batch s n vs os out).answer ≡ gives k → (ws : List ℕ) → k ≤ length ws →
      let c = commit_batch (take (512 * k) (plan_batch batch s n vs os out).out) s n ws in
      (c.answer ≡ gives k) × ((plan_and_commit batch s n vs os).state ≡ c.state)

-- what is certain of the joined call that keeps k, on the state s under n
pub record Settled (batch : List ℕ) (s : State) (n k : ℕ) (j : Joined) : Type 0 where
  -- demand 3, with its verdicts and the first k entries of its order list
  pub third : Third batch s n j.verdicts (take k j.order)
  -- "in it the state and its versions are those of our commit of the kept pages under the batch's number": its own state
  pub commits :
      (rule : Rules) → Fits (tx_at batch) s (zeros batch j.verdicts) rule →
      j.state ≡ run (tx_at batch) n 0 rule s (take k j.order)
  -- "k the kept count"
  pub count : k ≡ length (zeros batch j.verdicts)
