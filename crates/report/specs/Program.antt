-- Document 01, 'The listing': what the program writes for what it reads, its state and its lists as it makes them. Assumes nothing.
use Rattle.std.specs.Prelude.{ℕ, ◌≤◌, List, [], take, replicate, pos, Result, Ok, Err}
use Rattle.refusals.specs.Outcome.{gives, refuses}
use Rattle.ledger.specs.State.{State, state_of}
use Rattle.planning.specs.Joined.{Joined, plan_and_commit}
use Rattle.report.specs.Listing.{listed, refused}
use Rattle.report.specs.declared.program.InputError.{InputError}
use Rattle.report.specs.declared.program.InputError.TheVariants.{TooLong, Failed}

-- "A program reads pages from standard input into one buffer": the bytes read lie within a buffer so long
abbrev pub Within : Result ℕ InputError → ℕ → Type 0
Within (Ok n) size = n ≤ size
Within (Err e) size = Unit {0}

-- "begins with 1024 absent keys"
unfoldable pub start : State
start = state_of (replicate 1024 0) (replicate 1024 65535) (replicate 1024 (pos 0))

-- "and n 1"
abbrev pub start_number : ℕ
start_number = 1

-- "plans, commits the out batch", by document 02's "The listing moves to it": what the joined call leaves in the lists that the
-- program lends it
unfoldable pub done : List ℕ → State → Joined
done input s = plan_and_commit input s start_number (replicate 64 0) (replicate 64 0)

-- "and writes": the text for an input; `text` is the buffer that is lent for it
unfoldable pub shown : List ℕ → State → List ℕ → List ℕ
shown input s text =
    elim (done input s).answer [
      | gives k ↦ listed text start_number input (done input s).verdicts (done input s).order k (done input s).state
      | refuses number place ↦ refused text number place
    ]

-- what is written for what was read into a page buffer: "input beyond 32768 bytes gives 11", and a read that failed nothing
abbrev pub told : Result ℕ InputError → List ℕ → State → List ℕ → List ℕ
told (Ok n) page s text = shown (take n page) s text
told (Err TooLong) page s text = refused text 11 0
told (Err Failed) page s text = []

-- and the state that is left
abbrev pub told_state : Result ℕ InputError → List ℕ → State → State
told_state (Ok n) page s = (done (take n page) s).state
told_state (Err e) page s = s
