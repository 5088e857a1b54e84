-- The case of the customer's letter, with the old weight in the ledger: what plan and commit leave of it. Assumes nothing.
use Rattle.std.specs.Prelude.{ℕ, ◌*◌, List, [], ◌∷◌, ◌++◌, ◌≡◌, take, replicate, pos}
use Rattle.refusals.specs.Outcome.{gives}
use Rattle.ledger.specs.declared.Read.{Read}
use Rattle.ledger.specs.Version.{at}
use Rattle.ledger.specs.Tx.{Tx}
use Rattle.ledger.specs.declared.Entry.{Entry}
use Rattle.ledger.specs.State.{State, state_of, never, entry}
use Rattle.ledger.specs.Commit.{Commits, commit_batch}
use Rattle.planning.specs.Plan.{Plans, plan_batch}
use Rattle.claims.specs.Cases.{tx, put, number, batch_of}

-- "A bridge dropped a decimal comma and booked 684 tonnes for 68,4": key 4 holds 684,000 at place 5 of block 3, the
-- seven other keys are absent
abbrev pub booked : State
booked =
    state_of
    (replicate 4 0 ++ (3 ∷ replicate 3 0))
    (replicate 4 65535 ++ (5 ∷ replicate 3 65535))
    (replicate 4 (pos 0) ++ (pos 684000 ∷ replicate 3 (pos 0)))

-- a read of "the old weight"
abbrev pub old : Read
old = record { key = 4; version = at 3 5 }

-- "The correction": 68,400 on key 4, by one that had read the old weight, and by one that reads nothing
abbrev pub correction : ℕ → Tx
correction t = tx t (old ∷ []) (put 4 68400 ∷ [])

abbrev pub plain_correction : ℕ → Tx
plain_correction t = tx t [] (put 4 68400 ∷ [])

-- "a settlement that had read the old weight": it books the sum on key 5
abbrev pub settlement : ℕ → Tx
settlement t = tx t (old ∷ []) (put 5 684000 ∷ [])

-- and one that books the weight out as well: it writes what the correction reads
abbrev pub closing : ℕ → Tx
closing t = tx t (old ∷ []) (put 4 0 ∷ put 5 684000 ∷ [])

-- what plan leaves, and the commit of the kept pages under the batch's number
abbrev pub letter_plan : List Tx → Plans
letter_plan xs = plan_batch (batch_of xs) booked number (replicate 2 9) (replicate 2 9) (replicate 1024 9)

abbrev pub letter_commit : List Tx → ℕ → Commits
letter_commit xs k = commit_batch (take (512 * k) (letter_plan xs).out) booked number (replicate 2 9)

-- what becomes of a batch: how many are kept, the verdicts, the kept in their order, and the weight and the sum afterwards
pub record Becomes (xs : List Tx) (k : ℕ) (verdicts order : List ℕ) (weight sum : Entry) : Type 0 where
  pub count : (letter_plan xs).answer ≡ gives k
  pub verdicts_are : (letter_plan xs).verdicts ≡ verdicts
  pub order_is : take k (letter_plan xs).order ≡ order
  pub none_fails : (letter_commit xs k).answer ≡ gives k
  pub weight_is : entry (letter_commit xs k).state 4 ≡ weight
  pub sum_is : entry (letter_commit xs k).state 5 ≡ sum

-- a figure written by the page at place p of the out batch
abbrev pub by : ℕ → ℕ → Entry
by p kilograms = record { version = at number p; value = pos kilograms }

-- "The correction shared a batch with a settlement": the correction on page 0, the settlement on page 1
pub record Letter : Type 0 where
  -- both are kept whichever ticket is lower: the settlement first, which had read the old weight, then the correction
  pub correction_lower : Becomes (correction 4 ∷ settlement 9 ∷ []) 2 (0 ∷ 0 ∷ []) (1 ∷ 0 ∷ []) (by 1 68400) (by 0 684000)
  pub correction_higher : Becomes (correction 9 ∷ settlement 4 ∷ []) 2 (0 ∷ 0 ∷ []) (1 ∷ 0 ∷ []) (by 1 68400) (by 0 684000)
  -- where each reads what the other writes, the lower ticket is kept, and the other's verdict says why it is not
  pub closing_higher : Becomes (correction 4 ∷ closing 9 ∷ []) 1 (0 ∷ 2 ∷ []) (0 ∷ []) (by 0 68400) never
  pub closing_lower : Becomes (correction 9 ∷ closing 4 ∷ []) 1 (2 ∷ 0 ∷ []) (1 ∷ []) (by 0 0) (by 0 684000)
  -- a correction that reads nothing is kept behind it, whichever ticket is lower
  pub plain_lower : Becomes (plain_correction 4 ∷ closing 9 ∷ []) 2 (0 ∷ 0 ∷ []) (1 ∷ 0 ∷ []) (by 1 68400) (by 0 684000)
  pub plain_higher : Becomes (plain_correction 9 ∷ closing 4 ∷ []) 2 (0 ∷ 0 ∷ []) (1 ∷ 0 ∷ []) (by 1 68400) (by 0 684000)
