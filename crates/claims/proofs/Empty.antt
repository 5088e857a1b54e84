-- The empty programs of document 01, 'What the contracts have to pin': none of them meets its service's promise.
-- Each is shut out by an input on which the promise forces something else. Assumes nothing.
use Prim.Native.Nat.{ℕ, suc, ◌<◌}
use native.Mathlib.Omega.{arith}
use mathlib.Core.Bool.{Bool}
use mathlib.Core.List.{List, [], ◌∷◌}
use mathlib.Core.Path.{◌≡◌, refl, sym, ap, ◌∙◌}
use lib.ListN.{length, replicate}
use lib.IntN.{pos}
use lib.Dec.{T}
use Rattle.lists.specs.Tables.{flat, tab}
use Rattle.lists.specs.Ascii.{ascii}
use Rattle.refusals.specs.declared.Refusal.{Refusal}
use Rattle.std.specs.Prelude.{Result, Ok, Err}
use Rattle.refusals.specs.Outcome.{Outcome, gives, refuses, number_of, outcome}
use Rattle.refusals.specs.Fault.{first, rows_from, moved}
use Rattle.refusals.proofs.Answers.{apart, value}
use Rattle.tonnage.specs.Text.{digits, width_in, width, text_of}
use Rattle.tonnage.specs.Services.{write_text}
use Rattle.tonnage.specs.Services.{WrittenText, text_rows}
use Rattle.octets.specs.Bytes.{weighed, le, field}
use Rattle.lists.specs.Search.{seek, first_in}
use Rattle.ledger.specs.Version.{at}
use Rattle.ledger.specs.Tx.{Tx, floor_of}
use Rattle.ledger.specs.Page.{count_rows, entry_rows, head_rows, whole_rows, page_tx, page_of, body_of}
use Rattle.ledger.specs.Services.{Taken, taken, WrittenPage, wrote_page}
use Rattle.ledger.specs.declared.Transaction.{Transaction}
use Rattle.ledger.specs.declared.Entry.{Entry}
use Rattle.ledger.specs.State.{State, entry, store, state_rows}
use Rattle.ledger.specs.Gate.{pages, tx_at, txs, front_rows, pages_rows, gate_rows}
use Rattle.ledger.specs.Commit.{passes, stamp, write, after_page, verdicts, passed, Commits, commit_batch}
use Rattle.ledger.specs.Commit.{commit as commitAll}
use Rattle.planning.specs.Plan.{Plans, plan_batch}
use Rattle.planning.specs.Joined.{Joined}
use Rattle.claims.specs.Cases.{commit, Holds, tx, put, fresh, number, batch_of, crossing, reader_first, failing, with_counts, bytes7}
use Rattle.claims.specs.Third.{verdict_at, zeros}
use Rattle.claims.specs.Programs.{Program, PageReader, PageWriter, Planner, Committer, JoinedCall, TextReader, TextWriter}
use Rattle.claims.specs.Programs.{PageLent, PlanLent, CommitLent, JoinedLent, TextLent}
use Rattle.claims.specs.Programs.{bytes, page_fits, plan_fits, commit_fits, joined_fits, text_fits}
use Rattle.claims.proofs.Demand3.{demand_3}
use Rattle.claims.proofs.Table as table

-- what a program that meets a promise answers is what the promise gives
module _ {In Out Said A : Type 0} {fits : In → Bool} {said : Out → Said} {promise : In → Said}
    (p : Program fits said promise) (answer : Said → Outcome A) (x : In) (t : T (fits x)) where
  answers : (o : Outcome A) → answer (promise x) ≡ o → answer (said (p.does x)) ≡ o
  answers o e = ap answer (p.meets x t) ∙ e

  no_refusal :
      (a : A) (r : Refusal) → answer (promise x) ≡ gives a →
      answer (said (p.does x)) ≡ refuses (number_of r.reason) r.place → ⊥
  no_refusal a r e f = apart (answers (gives a) e) f

-- ---- the inputs

-- the lists that plan and commit are lent with the pages of two transactions
abbrev plan_on : List Tx → PlanLent
plan_on xs = record {
  batch = batch_of xs;
  state = fresh;
  number = number;
  verdicts = replicate 2 9;
  order = replicate 2 9;
  out = replicate 1024 9;
}

abbrev joined_on : List Tx → JoinedLent
joined_on xs = record { batch = batch_of xs; state = fresh; number = number; verdicts = replicate 2 9; order = replicate 2 9 }

abbrev commit_on : List Tx → CommitLent
commit_on xs = record { batch = batch_of xs; state = fresh; number = number; verdicts = replicate 2 9 }

-- two transactions that read nothing and write different keys: both pass
abbrev pair : List Tx
pair = tx 1 [] (put 3 5 ∷ []) ∷ tx 2 [] (put 4 6 ∷ []) ∷ []

abbrev wide : PageLent
wide = record { batch = replicate 512 0; index = 0; transaction = with_counts 25 25 }

abbrev figure : TextLent
figure = record { buffer = replicate 21 0; figure = pos 68400 }

-- their numbers are within their types
module _ where
  clash_fits : T (plan_fits (plan_on crossing))
  unfolding batch_of page_of body_of weighed le flat
  clash_fits = tt

  reader_fits : T (plan_fits (plan_on reader_first))
  unfolding batch_of page_of body_of weighed le flat
  reader_fits = tt

  joined_fits_lem : T (joined_fits (joined_on crossing))
  unfolding batch_of page_of body_of weighed le flat
  joined_fits_lem = tt

  failing_fits : T (commit_fits (commit_on failing))
  unfolding batch_of page_of body_of weighed le flat
  failing_fits = tt

  pair_fits : T (commit_fits (commit_on pair))
  unfolding batch_of page_of body_of weighed le flat
  pair_fits = tt

  wide_fits : T (page_fits wide)
  unfolding tab
  wide_fits = tt

  text_fits_lem : T (bytes (ascii "68,400"))
  unfolding ascii
  text_fits_lem = tt

  clash_pages : pages (batch_of crossing) ≡ 2
  unfolding batch_of page_of body_of weighed le flat
  clash_pages = refl

  pair_pages : pages (batch_of pair) ≡ 2
  unfolding batch_of page_of body_of weighed le flat
  pair_pages = refl

figure-written : (write_text (replicate 21 0) (pos 68400)).answer ≡ gives 6
unfolding write_text first text_rows text_of digits width width_in
figure-written = refl

pair_commits : Holds (commit pair 2 (0 ∷ 0 ∷ []) 4 (record { version = at number 1; value = pos 6 }))
unfolding first rows_from moved first_in seek count_rows entry_rows floor_of page_of body_of weighed le flat tab whole_rows head_rows
    page_tx field batch_of gate_rows front_rows state_rows pages_rows txs entry store passes write after_page commitAll verdicts
    passed commit_batch
pair_commits = (refl, refl, refl)

-- after the writes of page 0 alone key 4 is absent
pair_first : (entry (write (stamp number 0) fresh (tx_at (batch_of pair) 0).writes) 4).version.place ≡ 65535
unfolding entry store write batch_of page_of body_of weighed le flat tab field page_tx
pair_first = refl

-- ---- "a service that refuses all": none of the seven can

pub reads_no_page : (p : PageReader) → ((x : List ℕ) → T (bytes x) → (r : Refusal) × (p.does x ≡ Err r)) → ⊥
reads_no_page p f =
    let w = f bytes7 tt in
    no_refusal p (λ (k : Taken). k.answer) bytes7 tt _ w.0
    (ap (λ (k : Taken). k.answer) (table.page-ticket7).1) (ap (λ (y : Result Transaction Refusal). (taken y).answer) w.1)

pub writes_no_page :
    (p : PageWriter) → ((x : PageLent) → T (page_fits x) → (r : Refusal) × ((p.does x).answer ≡ Err r)) → ⊥
writes_no_page p f =
    let w = f wide wide_fits in
    no_refusal p (λ (k : WrittenPage). k.answer) wide wide_fits 0 w.0 table.room_25 (ap (λ a. (wrote_page a (p.does wide).batch).answer) w.1)

pub plans_none : (p : Planner) → ((x : PlanLent) → T (plan_fits x) → (r : Refusal) × ((p.does x).answer ≡ Err r)) → ⊥
plans_none p f =
    let w = f (plan_on crossing) clash_fits in
    no_refusal p (λ (k : Plans). k.answer) (plan_on crossing) clash_fits 1 w.0 (table.plan_clash).0 (ap outcome w.1)

pub commits_none :
    (p : Committer) → ((x : CommitLent) → T (commit_fits x) → (r : Refusal) × ((p.does x).answer ≡ Err r)) → ⊥
commits_none p f =
    let w = f (commit_on failing) failing_fits in
    no_refusal p (λ (k : Commits). k.answer) (commit_on failing) failing_fits 1 w.0
    (table.commit-failing).0 (ap outcome w.1)

pub joins_none : (p : JoinedCall) → ((x : JoinedLent) → T (joined_fits x) → (r : Refusal) × ((p.does x).answer ≡ Err r)) → ⊥
joins_none p f =
    let w = f (joined_on crossing) joined_fits_lem in
    no_refusal p (λ (k : Joined). k.answer) (joined_on crossing) joined_fits_lem 1 w.0 (table.joined_clash).0 (ap outcome w.1)

pub reads_no_text : (p : TextReader) → ((x : List ℕ) → T (bytes x) → (r : Refusal) × (p.does x ≡ Err r)) → ⊥
reads_no_text p f =
    let w = f (ascii "68,400") text_fits_lem in
    no_refusal p (λ o. o) (ascii "68,400") text_fits_lem _ w.0 table.text_plain (ap outcome w.1)

pub writes_no_text :
    (p : TextWriter) → ((x : TextLent) → T (text_fits x) → (r : Refusal) × ((p.does x).answer ≡ Err r)) → ⊥
writes_no_text p f =
    let w = f figure tt in
    no_refusal p (λ (k : WrittenText). k.answer) figure tt 6 w.0 figure-written (ap outcome w.1)

-- ---- planners

-- a count that is given is the answer
counted-answer : (a : Result ℕ Refusal) (k : ℕ) → outcome a ≡ gives k → a ≡ Ok k
counted-answer (Ok j) k e = ap Ok (value refl e)
counted-answer (Err r) k e = absurd (apart e refl)

module _ (p : Planner) where
  -- it answers with the count that the promise gives
  plan-counts :
      (x : PlanLent) (t : T (plan_fits x)) (k : ℕ) →
      (plan_batch x.batch x.state x.number x.verdicts x.order x.out).answer ≡ gives k →
      (p.does x).answer ≡ Ok k
  plan-counts x t k e = counted-answer (p.does x).answer k (answers p (λ (y : Plans). y.answer) x t (gives k) e)

  -- "a planner that .. gives one verdict to every batch": one to all pages of each batch that it does not refuse
  pub plans-one-verdict :
      ((x : PlanLent) → T (plan_fits x) → (k : ℕ) → (p.does x).answer ≡ Ok k →
      (v : ℕ) × ((i : ℕ) → i < pages x.batch → verdict_at (p.does x).verdicts i ≡ v)) → ⊥
  plans-one-verdict f =
      let x = plan_on crossing in
      let w = f x clash_fits 1 (plan-counts x clash_fits 1 (table.plan_clash).0) in
      let vs : (p.does x).verdicts ≡ 2 ∷ 0 ∷ [] =
      ap (λ (y : Plans). y.verdicts) (p.meets x clash_fits) ∙ (table.plan_clash).1 in
      let first : 2 ≡ w.0 = sym (ap (λ (l : List ℕ). verdict_at l 0) vs) ∙ w.1 0 (rw clash_pages (omega arith)) in
      let second : 0 ≡ w.0 = sym (ap (λ (l : List ℕ). verdict_at l 1) vs) ∙ w.1 1 (rw clash_pages (omega arith)) in
      omega arith

  -- "a planner that calls all stale"
  pub plans-all-stale :
      ((x : PlanLent) → T (plan_fits x) → (k : ℕ) → (p.does x).answer ≡ Ok k →
      (i : ℕ) → i < pages x.batch → verdict_at (p.does x).verdicts i ≡ 1) → ⊥
  plans-all-stale f = plans-one-verdict (λ x t k e. (1, f x t k e))

  -- k is "the kept count", the number of verdicts 0, on every batch that is not refused
  pub plans-true-count :
      (x : PlanLent) → T (plan_fits x) → (k : ℕ) → (p.does x).answer ≡ Ok k →
      k ≡ length (zeros x.batch (p.does x).verdicts)
  plans-true-count x t k e =
      let m = p.meets x t in
      (demand_3 x.batch x.state x.number x.verdicts x.order x.out k
      (sym (ap (λ (y : Plans). y.answer) m) ∙ ap outcome e)).count
      ∙ ap (λ (vs : List ℕ). length (zeros x.batch vs)) (sym (ap (λ (y : Plans). y.verdicts) m))

  -- "a made-up kept count": m; one more than the kept; the same for every batch
  pub plans-count-pages :
      ((x : PlanLent) → T (plan_fits x) → (k : ℕ) → (p.does x).answer ≡ Ok k → k ≡ pages x.batch) → ⊥
  plans-count-pages f =
      let e : 1 ≡ pages (batch_of crossing) =
      f (plan_on crossing) clash_fits 1 (plan-counts (plan_on crossing) clash_fits 1 (table.plan_clash).0) in
      omega (arith, clash_pages)

  pub plans-count-more :
      ((x : PlanLent) → T (plan_fits x) → (k : ℕ) → (p.does x).answer ≡ Ok k →
      k ≡ suc (length (zeros x.batch (p.does x).verdicts))) → ⊥
  plans-count-more f =
      let a = plan-counts (plan_on crossing) clash_fits 1 (table.plan_clash).0 in
      let e = f (plan_on crossing) clash_fits 1 a in
      let g = plans-true-count (plan_on crossing) clash_fits 1 a in
      omega arith

  pub plans-one-count :
      (c : ℕ) → ((x : PlanLent) → T (plan_fits x) → (k : ℕ) → (p.does x).answer ≡ Ok k → k ≡ c) → ⊥
  plans-one-count c f =
      let one : 1 ≡ c = f (plan_on crossing) clash_fits 1 (plan-counts (plan_on crossing) clash_fits 1 (table.plan_clash).0) in
      let two : 2 ≡ c = f (plan_on reader_first) reader_fits 2 (plan-counts (plan_on reader_first) reader_fits 2 (table.plan-reader).0) in
      omega arith

-- ---- commits

module _ (p : Committer) where
  commit-counts :
      (x : CommitLent) (t : T (commit_fits x)) (k : ℕ) →
      (commit_batch x.batch x.state x.number x.verdicts).answer ≡ gives k → (p.does x).answer ≡ Ok k
  commit-counts x t k e = counted-answer (p.does x).answer k (answers p (λ (y : Commits). y.answer) x t (gives k) e)

  -- the entry that it leaves at a key
  entry-left :
      (x : CommitLent) (t : T (commit_fits x)) (k : ℕ) (e : Entry) →
      entry (commit_batch x.batch x.state x.number x.verdicts).state k ≡ e → entry (p.does x).state k ≡ e
  entry-left x t k e h = ap (λ (y : Commits). entry y.state k) (p.meets x t) ∙ h

  -- "a commit that leaves the state" of each batch that it does not refuse
  pub commits_idle :
      ((x : CommitLent) → T (commit_fits x) → (k : ℕ) → (p.does x).answer ≡ Ok k → (p.does x).state ≡ x.state) → ⊥
  unfolding entry
  commits_idle f =
      let x = commit_on failing in
      let same = f x failing_fits 1 (commit-counts x failing_fits 1 (table.commit-failing).0) in
      let new = entry-left x failing_fits 4 _ (table.commit-failing).2 in
      let e : ◌≡◌ {A = ℕ} 65535 1 =
      ap (λ (s : State). (entry s 4).version.place) (sym same) ∙ ap (λ (z : Entry). z.version.place) new in
      omega arith

  -- "a commit that applies page 0 and only marks the others as passed": on each batch whose pages all pass, so that each
  -- mark is right, the state is that after the writes of page 0
  pub commits-first :
      ((x : CommitLent) → T (commit_fits x) → (p.does x).answer ≡ Ok (pages x.batch) →
      (p.does x).state ≡ write (stamp x.number 0) x.state (tx_at x.batch 0).writes) → ⊥
  commits-first f =
      let x = commit_on pair in
      let a = commit-counts x pair_fits 2 pair_commits.0 in
      let same = f x pair_fits (rw pair_pages a) in
      let new = entry-left x pair_fits 4 _ pair_commits.2 in
      let e : ◌≡◌ {A = ℕ} 65535 1 =
      sym pair_first ∙ ap (λ (s : State). (entry s 4).version.place) (sym same) ∙ ap (λ (z : Entry). z.version.place) new in
      omega arith

-- ---- joined calls

-- a joined call that plans and leaves the state of each batch that it does not refuse
pub joins_idle :
    (p : JoinedCall) →
    ((x : JoinedLent) → T (joined_fits x) → (k : ℕ) → (p.does x).answer ≡ Ok k → (p.does x).state ≡ x.state) → ⊥
unfolding entry
joins_idle p f =
    let x = joined_on crossing in
    let a = counted-answer (p.does x).answer 1 (answers p (λ (y : Joined). y.answer) x joined_fits_lem (gives 1) (table.joined_clash).0) in
    let same = f x joined_fits_lem 1 a in
    let new = ap (λ (y : Joined). entry y.state 3) (p.meets x joined_fits_lem) ∙ (table.joined_clash).3 in
    let e : ◌≡◌ {A = ℕ} 65535 0 =
    ap (λ (s : State). (entry s 3).version.place) (sym same) ∙ ap (λ (z : Entry). z.version.place) new in
    omega arith
