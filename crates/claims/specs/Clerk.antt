-- The clerk's case: "A lot was opened and closed again, and a clerk's ticket still passed the check on "absent"." Assumes nothing.
use Rattle.std.specs.Prelude.{ℕ, List, [], ◌∷◌, ◌≡◌, replicate, pos}
use Rattle.refusals.specs.Outcome.{gives}
use Rattle.ledger.specs.declared.Read.{Read}
use Rattle.ledger.specs.declared.Write.{Write}
use Rattle.ledger.specs.declared.Entry.{Entry}
use Rattle.ledger.specs.Version.{at}
use Rattle.ledger.specs.Tx.{Tx}
use Rattle.ledger.specs.State.{State, entry}
use Rattle.ledger.specs.Commit.{commit_batch}
use Rattle.planning.specs.Joined.{Joined, plan_and_commit}
use Rattle.claims.specs.Cases.{fresh, batch_of, tx, absent_read, put}

-- the lot is key 3 of eight absent keys; a read of it at a block and place, and its entry
abbrev pub lot_read : ℕ → ℕ → Read
lot_read b p = record { key = 3; version = at b p }

abbrev pub lot : ℕ → ℕ → ℕ → Entry
lot b p kilograms = record { version = at b p; value = pos kilograms }

abbrev pub delete : ℕ → Write
delete k = record { key = k; kind = 1; value = pos 0 }

-- batch 1 opens it: ticket 1 reads it as absent
abbrev pub opening : List Tx
opening = tx 1 (absent_read 3 ∷ []) (put 3 68400 ∷ []) ∷ []

-- batch 2 closes it: ticket 2 reads it as batch 1 left it
abbrev pub closing : List Tx
closing = tx 2 (lot_read 1 0 ∷ []) (delete 3 ∷ []) ∷ []

-- batch 3: the clerk's ticket 3 still reads it as absent, ticket 4 as closed by batch 2
abbrev pub reopening : List Tx
reopening = tx 3 (absent_read 3 ∷ []) (put 3 500 ∷ []) ∷ tx 4 (lot_read 2 32768 ∷ []) (put 3 70000 ∷ []) ∷ []

-- each by one call, under 1, 2 and 3, on the state that the one before left
abbrev pub call : List Tx → State → ℕ → Joined
call xs s n = plan_and_commit (batch_of xs) s n (replicate 2 9) (replicate 2 9)

abbrev pub opened : Joined
opened = call opening fresh 1

abbrev pub closed : Joined
closed = call closing opened.state 2

abbrev pub reopened : Joined
reopened = call reopening closed.state 3

pub record Clerk : Type 0 where
  pub opened-count : opened.answer ≡ gives 1
  pub opened-lot : entry opened.state 3 ≡ lot 1 0 68400
  pub closed-count : closed.answer ≡ gives 1
  pub closed-lot : entry closed.state 3 ≡ lot 2 32768 0
  -- the clerk's ticket is stale, the other is kept
  pub reopened-count : reopened.answer ≡ gives 1
  pub reopened-verdicts : reopened.verdicts ≡ 1 ∷ 0 ∷ []
  pub reopened-lot : entry reopened.state 3 ≡ lot 3 0 70000
  -- and where the pages of batch 3 are committed as they came, the clerk's ticket fails the check
  pub fails-check : (commit_batch (batch_of reopening) closed.state 3 (replicate 2 9)).verdicts ≡ 3 ∷ 0 ∷ []
