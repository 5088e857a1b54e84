-- Document 01, 'The listing': when a text is whole; and two inputs with their listings. Assumes nothing.
use Rattle.std.specs.Prelude.{ℕ, ◌*◌, ◌≡◌, List, [], ◌∷◌, take, replicate, negsuc}
use Rattle.refusals.specs.Outcome.{gives, refuses}
use Rattle.lists.specs.Ascii.{ascii}
use Rattle.ledger.specs.Version.{at}
use Rattle.ledger.specs.State.{State}
use Rattle.ledger.specs.Commit.{commit_batch}
use Rattle.planning.specs.Plan.{Plans, plan_batch}
use Rattle.ledger.specs.Tx.{Tx}
use Rattle.report.specs.Listing.{listing, refusal}
use Rattle.report.specs.Program.{start_number, start}
use Rattle.claims.specs.Cases.{tx, absent_read, put}

-- document 01's "plans": what plan leaves, with lists and an out batch for 64 pages
abbrev pub plan : List ℕ → Plans
plan input = plan_batch input start start_number (replicate 64 0) (replicate 64 0) (replicate 32768 0)

-- "commits the out batch": the state after its first k pages
abbrev pub state_after : List ℕ → ℕ → State
state_after input k = (commit_batch (take (512 * k) (plan input).out) start start_number (replicate 64 0)).state

-- a text for an input is the whole listing of what the two calls leave, or the refusal's line
abbrev pub Whole : List ℕ → List ℕ → Type 0
Whole input text =
    ((k : ℕ) → (plan input).answer ≡ gives k →
    text ≡ listing start_number input (plan input).verdicts (plan input).order k (state_after input k))
    × ((number place : ℕ) → (plan input).answer ≡ refuses number place → text ≡ refusal number place)

-- "Five pages: ticket 10 puts 68400 on 5; 20 reads 5 absent, puts 100 on 6; 30 reads 6 absent, puts -50 on 7; 40 reads 7 absent, puts 1 on 5;
-- 50 reads 8 as block 0 place 0."
abbrev pub five : List Tx
five =
    tx 10 [] (put 5 68400 ∷ [])
    ∷ tx 20 (absent_read 5 ∷ []) (put 6 100 ∷ [])
    ∷ tx 30 (absent_read 6 ∷ []) (record { key = 7; kind = 0; value = negsuc 49 } ∷ [])
    ∷ tx 40 (absent_read 7 ∷ []) (put 5 1 ∷ [])
    ∷ tx 50 (record { key = 8; version = at 0 0 } ∷ []) []
    ∷ []

-- the customer's letter: a correction shares its batch with settlements that had read the old weight (worked by hand in tools/pages.py)
abbrev pub letter_batch : List Tx
letter_batch =
    tx 70 [] (put 4 68400 ∷ [])
    ∷ tx 60 (absent_read 4 ∷ []) (put 3 684000 ∷ [])
    ∷ tx 80 (absent_read 3 ∷ absent_read 4 ∷ []) (put 4 1000 ∷ put 9 5000 ∷ [])
    ∷ tx 90 (record { key = 4; version = at 0 7 } ∷ []) []
    ∷ []

-- "Whole output", of the five pages
abbrev pub nine_lines : List ℕ
nine_lines = ascii "block 1 pages 5 kept 3\n10 kept 2\n20 kept 1\n30 kept 0\n40 cycle -\n50 stale -\n5 1.2 68,400\n6 1.1 0,100\n7 1.0 -0,050\n"

-- and of the letter's four, by hand
abbrev pub letter_lines : List ℕ
letter_lines = ascii "block 1 pages 4 kept 2\n70 kept 1\n60 kept 0\n80 cycle -\n90 stale -\n3 1.0 684,000\n4 1.1 68,400\n"
