-- Document 01, 'What the contracts have to pin': any program that meets the promise of a service. Assumes nothing.
use Rattle.std.specs.Prelude.{ℕ, ◌^◌, Bool, ◌&&◌, List, ◌≡◌, length, ℤ, T, eqb, ltb, Result}
use Rattle.lists.specs.Members.{all}
use Rattle.refusals.specs.declared.Refusal.{Refusal}
use Rattle.refusals.specs.Outcome.{outcome}
use Rattle.tonnage.specs.Services.{in64, read_text, wrote, write_text}
use Rattle.ledger.specs.declared.Read.{Read}
use Rattle.ledger.specs.declared.Write.{Write}
use Rattle.ledger.specs.declared.Transaction.{Transaction}
use Rattle.ledger.specs.Services.{taken, read_page, wrote_page, write_page}
use Rattle.ledger.specs.State.{State}
use Rattle.ledger.specs.Commit.{committed, commit_batch}
use Rattle.planning.specs.Plan.{planned, plan_batch}
use Rattle.planning.specs.Joined.{joined, plan_and_commit}

-- A program for a service: what it answers and leaves, `does`, for each input. It meets the promise where, on every input
-- whose numbers are within their types, that is what the promise gives. Nothing else is known of it.
pub record Program {In Out Said : Type 0} (fits : In → Bool) (said : Out → Said) (promise : In → Said) : Type 0 where
  pub does : In → Out
  pub meets : (x : In) → T (fits x) → said (does x) ≡ promise x

-- ---- inputs whose numbers are within their types: no more than any caller has to give

-- a list that can be lent, of numbers below a bound
abbrev pub lent : ℕ → List ℕ → Bool
lent top xs = ltb (length xs) (2 ^ 64) && all (λ x. ltb x top) xs

abbrev pub bytes : List ℕ → Bool
bytes xs = lent (2 ^ 8) xs

-- "block numbers (32 bits), places (16 bits), values in kilograms (64 bits, signed)"
abbrev pub lent_state : State → Bool
lent_state s =
    lent (2 ^ 32) s.blocks
    && lent (2 ^ 16) s.places
    && (ltb (length s.values) (2 ^ 64) && all in64 s.values)

-- "The transaction as a value holds the counts, the ticket, 32 reads and 32 writes"
abbrev pub lent_read : Read → Bool
lent_read r = ltb r.key (2 ^ 16) && ltb r.version.place (2 ^ 16) && ltb r.version.block (2 ^ 32)

abbrev pub lent_write : Write → Bool
lent_write w = ltb w.key (2 ^ 16) && ltb w.kind (2 ^ 16) && in64 w.value

abbrev pub lent_transaction : Transaction → Bool
lent_transaction t =
    ltb t.ticket (2 ^ 32)
    && ltb t.r (2 ^ 64)
    && ltb t.w (2 ^ 64)
    && eqb (length t.reads) 32
    && eqb (length t.writes) 32
    && all lent_read t.reads
    && all lent_write t.writes

-- ---- what each service is lent, and what it leaves

pub record PageLent : Type 0 where
  pub batch : List ℕ
  pub index : ℕ
  pub transaction : Transaction

pub record PageDone : Type 0 where
  pub answer : Result Unit Refusal
  pub batch : List ℕ

pub record PlanLent : Type 0 where
  pub batch : List ℕ
  pub state : State
  pub number : ℕ
  pub verdicts : List ℕ
  pub order : List ℕ
  pub out : List ℕ

pub record PlanDone : Type 0 where
  pub answer : Result ℕ Refusal
  pub verdicts : List ℕ
  pub order : List ℕ
  pub out : List ℕ

pub record CommitLent : Type 0 where
  pub batch : List ℕ
  pub state : State
  pub number : ℕ
  pub verdicts : List ℕ

pub record CommitDone : Type 0 where
  pub answer : Result ℕ Refusal
  pub state : State
  pub verdicts : List ℕ

pub record JoinedLent : Type 0 where
  pub batch : List ℕ
  pub state : State
  pub number : ℕ
  pub verdicts : List ℕ
  pub order : List ℕ

pub record JoinedDone : Type 0 where
  pub answer : Result ℕ Refusal
  pub state : State
  pub verdicts : List ℕ
  pub order : List ℕ

pub record TextLent : Type 0 where
  pub buffer : List ℕ
  pub figure : ℤ

pub record TextDone : Type 0 where
  pub answer : Result ℕ Refusal
  pub buffer : List ℕ

abbrev pub page_fits : PageLent → Bool
page_fits x = bytes x.batch && ltb x.index (2 ^ 64) && lent_transaction x.transaction

abbrev pub plan_fits : PlanLent → Bool
plan_fits x =
    bytes x.batch
    && lent_state x.state
    && ltb x.number (2 ^ 32)
    && bytes x.verdicts
    && bytes x.order
    && bytes x.out

abbrev pub commit_fits : CommitLent → Bool
commit_fits x = bytes x.batch && lent_state x.state && ltb x.number (2 ^ 32) && bytes x.verdicts

abbrev pub joined_fits : JoinedLent → Bool
joined_fits x =
    bytes x.batch
    && lent_state x.state
    && ltb x.number (2 ^ 32)
    && bytes x.verdicts
    && bytes x.order

abbrev pub text_fits : TextLent → Bool
text_fits x = bytes x.buffer && in64 x.figure

-- ---- the programs: "read a page, write a page, plan a batch, commit a batch, read a tonnage text, write a tonnage text", and
-- document 02's "One service shall plan and commit"

abbrev pub PageReader : Type 0
PageReader = Program {Out = Result Transaction Refusal} bytes taken read_page

abbrev pub PageWriter : Type 0
PageWriter =
    Program {Out = PageDone} page_fits
    (λ y. wrote_page y.answer y.batch)
    (λ x. write_page x.batch x.index x.transaction)

abbrev pub Planner : Type 0
Planner =
    Program {Out = PlanDone} plan_fits
    (λ y. planned y.answer y.verdicts y.order y.out)
    (λ x. plan_batch x.batch x.state x.number x.verdicts x.order x.out)

abbrev pub Committer : Type 0
Committer =
    Program {Out = CommitDone} commit_fits
    (λ y. committed y.answer y.state y.verdicts)
    (λ x. commit_batch x.batch x.state x.number x.verdicts)

abbrev pub JoinedCall : Type 0
JoinedCall =
    Program {Out = JoinedDone} joined_fits
    (λ y. joined y.answer y.state y.verdicts y.order)
    (λ x. plan_and_commit x.batch x.state x.number x.verdicts x.order)

abbrev pub TextReader : Type 0
TextReader = Program {Out = Result ℤ Refusal} bytes outcome read_text

abbrev pub TextWriter : Type 0
TextWriter =
    Program {Out = TextDone} text_fits
    (λ y. wrote y.answer y.buffer)
    (λ x. write_text x.buffer x.figure)
