-- Document 02, 'E2: One call for the ordinary batch': plan and commit in one. Assumes nothing.
use Rattle.std.specs.Prelude.{ℕ, ◌*◌, List, take, replicate, Result}
use Rattle.refusals.specs.declared.Refusal.{Refusal}
use Rattle.refusals.specs.Outcome.{Outcome, gives, refuses, outcome}
use Rattle.ledger.specs.State.{State}
use Rattle.ledger.specs.Gate.{pages}
use Rattle.ledger.specs.Commit.{commit_batch}
use Rattle.planning.specs.Plan.{Plans, plan_batch}

-- the outcome, and what was lent at the end
pub record Joined : Type 0 where
  pub answer : Outcome ℕ
  pub state : State
  pub verdicts : List ℕ
  pub order : List ℕ

-- "the state that commit leaves on the out batch": on its first 512k bytes, where plan keeps k; a refusal leaves it unchanged
abbrev pub settled : State → ℕ → Plans → State
settled s n p =
    elim p.answer [
      | gives k ↦ (commit_batch (take (512 * k) p.out) s n (replicate k 0)).state
      | refuses number place ↦ s
    ]

-- "One service shall plan and commit, with the verdicts, order list and kept count of the plan, and the state that commit leaves on
-- the out batch." "Refusals: order and numbers as for plan, without the out batch in 14": the plan here has one that is long enough.
unfoldable pub plan_and_commit : List ℕ → State → ℕ → List ℕ → List ℕ → Joined
plan_and_commit batch s n vs os =
    let p = plan_batch batch s n vs os (replicate (512 * pages batch) 0) in
    record { answer = p.answer; state = settled s n p; verdicts = p.verdicts; order = p.order }

-- the answer of the joined call as an outcome, with what was lent as it is at the end
abbrev pub joined : Result ℕ Refusal → State → List ℕ → List ℕ → Joined
joined a s vs os = record { answer = outcome a; state = s; verdicts = vs; order = os }
