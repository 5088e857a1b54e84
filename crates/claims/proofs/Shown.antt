-- What the listing program writes, for every input. Assumes nothing.
use Prim.Native.Nat.{ℕ, ◌*◌, ◌≤◌, ◌<◌}
use native.Mathlib.Omega.{arith}
use mathlib.Core.Bool.{true, false}
use mathlib.Core.List.{List, []}
use mathlib.Core.Path.{◌≡◌, refl, sym, ap, ◌∙◌}
use lib.ListN.{length, take, replicate, length-append, length-replicate}
use lib.Seq.{length-take-le}
use borrow.Author.Tests.{lt-ltb, le-leb, eq-eqb}
use Rattle.refusals.specs.Outcome.{gives, refuses}
use Rattle.refusals.specs.Fault.{Fault, clear, fault, after}
use Rattle.refusals.specs.Fault.{first as rowsFirst}
use Rattle.ledger.specs.State.{State, keys, versions, wrong_lengths}
use Rattle.ledger.specs.Gate.{pages, tx_at, txs, front_rows}
use Rattle.ledger.specs.Commit.{commit, Commits, commit_rows, commit_batch}
use Rattle.ledger.specs.Inner.{Level}
use Rattle.lists.proofs.Tables.{length-tab}
use Rattle.ledger.proofs.Gated.{Through, front_whole, open_front, gate_open}
use Rattle.ledger.proofs.Commits.{Kept, kept_self, commit-kept}
use Rattle.planning.specs.Plan.{Plans, sequence, plans, plan_rows, plan_batch}
use Rattle.planning.proofs.Few.{plan-room}
use Rattle.report.specs.Listing.{listing, refusal, together, listed, refused}
use Rattle.report.specs.Program.{start_number, start, done, shown, told}
use Rattle.std.specs.Prelude.{Ok, Err}
use Rattle.report.specs.declared.program.InputError.TheVariants.{TooLong, Failed}
use Rattle.claims.specs.Serial.{run}
use Rattle.claims.specs.Shown.{plan, state_after, Whole}
use Rattle.refusals.proofs.Answers.{value}
use Rattle.planning.proofs.Opened.{own, plan_open, plan-clear}
use Rattle.claims.proofs.Running.{on_pages}
use Rattle.planning.proofs.Joined.{same_answer}
use Rattle.planning.proofs.Kept.{sequence-perm}
use Rattle.claims.proofs.Joined.{two_calls}
use Rattle.claims.proofs.Demand3.{third}

-- ---- a commit leaves lists as long as they were

batch-kept : (batch : List ℕ) (s : State) (n : ℕ) (vs : List ℕ) → Kept s (commit_batch batch s n vs).state
unfolding commit_batch
batch-kept batch s n vs = go (rowsFirst (commit_rows batch s n vs))
  where
    go : (f : Fault) → Kept s (after f (commit n 0 s (txs batch)) s)
    go clear = commit-kept n 0 s (txs batch)
    go (fault a b) = kept_self s

-- lists of one length, 1 to 1024, stay so
good_lengths : (s t : State) → Kept s t → Level s → 0 < keys s → keys s ≤ 1024 → wrong_lengths t ≡ false
good_lengths s t k l h j =
    rw (
      eq-eqb (length t.blocks) (length t.places) (omega (arith, k.blocks, k.places, l.places)),
      eq-eqb (length t.blocks) (length t.values) (omega (arith, k.blocks, k.values, l.values)),
      lt-ltb 0 (length t.blocks) (omega (arith, k.blocks)),
      le-leb (length t.blocks) 1024 (omega (arith, k.blocks)),
    )

-- ---- what is lent goes together, whatever the input, the state and the lent lists are

module _ (text input : List ℕ) (s : State) (vs os out ps : List ℕ) (room : 65536 ≤ length text) where
  abbrev p : Plans
  p = plan_batch input s start_number vs os out

  abbrev then : ℕ → State
  then k = (commit_batch (take (512 * k) p.out) s start_number ps).state

  abbrev made : Plans
  made = plans input (versions s) (sequence (versions s) (tx_at input) (pages input)) vs os out

  -- a plan that is no refusal came through the gate
  opened : (k : ℕ) → p.answer ≡ gives k → Through input s start_number × (p ≡ made)
  opened k e =
      let c = (plan-clear input s start_number vs os out e).0 in
      (gate_open (own input s start_number vs os out) input s start_number c, sym (plan_open input s start_number vs os out c))

  long_verdicts : pages input ≤ length made.verdicts
  unfolding plans
  long_verdicts = simp (length-append, length-tab) (omega arith)

  long_order : (k : ℕ) → made.answer ≡ gives k → k ≤ length made.order
  unfolding plans
  long_order k e = simp length-append (omega (arith, value e refl))

  -- so what `listed` asks is always so
  fits : (k : ℕ) → p.answer ≡ gives k → together text input p.verdicts p.order k (then k) ≡ true
  fits k e =
      let o = opened k e in
      let t = o.0 in
      let v : pages input ≤ length p.verdicts = rw o.1 long_verdicts in
      let d : k ≤ length p.order = rw o.1 (long_order k (rw o.1 at e)) in
      let few = plan-room input s start_number vs os out k e in
      rw (
        le-leb 65536 (length text) room,
        le-leb (length input) 32768 (omega (arith, t.ready.whole, t.ready.few)),
        le-leb (pages input) (length p.verdicts) v,
        le-leb k (length p.order) d,
        le-leb k 64 few.0,
        good_lengths s (then k) (batch-kept (take (512 * k) p.out) s start_number ps) t.level t.some t.few,
      )

  -- what is filled in where k are kept
  abbrev due : ℕ → List ℕ
  due k = listed text start_number input p.verdicts p.order k (then k)

  -- it is the whole listing
  whole : (k : ℕ) → p.answer ≡ gives k → due k ≡ listing start_number input p.verdicts p.order k (then k)
  unfolding listed
  whole k e = rw (fits k e)

  plan-gives : (k : ℕ) → rowsFirst (plan_rows input s start_number vs os out) ≡ clear → made.answer ≡ gives k → p.answer ≡ gives k
  plan-gives k c a = ap (λ (q : Plans). q.answer) (sym (plan_open input s start_number vs os out c)) ∙ a

  -- where the gate lets the input through, the state that is listed is that of the kept pages' own writes, in the order of the schedule
  whole_run :
      (k : ℕ) → rowsFirst (plan_rows input s start_number vs os out) ≡ clear → made.answer ≡ gives k → k ≤ length ps →
      due k
      ≡ listing start_number input made.verdicts made.order k
      (run (tx_at input) start_number 0 (on_pages (tx_at input)) s (take k made.order))
  whole_run k c a l =
      let e = sym (plan_open input s start_number vs os out c) in
      let t = third input s start_number (sequence (versions s) (tx_at input) (pages input)) vs os out k (sequence-perm (versions s) (tx_at input) (pages input)) c a in
      let h : length (take k made.order) ≡ k = length-take-le k made.order (long_order k a) in
      whole k (plan-gives k c a)
      ∙ ap (λ (q : Plans). listing start_number input q.verdicts q.order k (commit_batch (take (512 * k) q.out) s start_number ps).state) e
      ∙ ap (λ (o : List ℕ). listing start_number input made.verdicts made.order k (commit_batch o s start_number ps).state)
      t.out-pages
      ∙ ap (λ (q : Commits). listing start_number input made.verdicts made.order k q.state)
      (t.third.commits (on_pages (tx_at input)) (λ i m. refl) ps (omega arith))

-- ---- the program

-- a buffer is as long as it is made
pub long : (n a : ℕ) → n ≤ length (replicate n a)
long n a = rw (length-replicate n a) (omega arith)

-- an out batch for 64 pages is long enough for an input that is not too long
enough : (input : List ℕ) → rowsFirst (front_rows input start start_number) ≡ clear → 512 * pages input ≤ length {A = ℕ} (replicate 32768 0)
enough input e = omega (arith, front_whole input start start_number e, length-replicate {A = ℕ} 32768 0)

-- what is written, by the joined call's answer
shown-done : (text input : List ℕ) (s : State) (k : ℕ) → (done input s).answer ≡ gives k
    → shown input s text ≡ listed text start_number input (done input s).verdicts (done input s).order k (done input s).state
unfolding shown
shown-done text input s k e = rw (e, shown)

shown-not : (text input : List ℕ) (s : State) (number place : ℕ) → (done input s).answer ≡ refuses number place
    → shown input s text ≡ refused text number place
unfolding shown
shown-not text input s number place e = rw (e, shown)

-- and by plan's: the joined call is the two calls
shown-gives : (text input : List ℕ) (k : ℕ) → (plan input).answer ≡ gives k
    → shown input start text ≡ listed text start_number input (plan input).verdicts (plan input).order k (state_after input k)
unfolding done
shown-gives text input k e =
    let vs : List ℕ = replicate 64 0 in
    let few = plan-room input start start_number vs vs (replicate 32768 0) k e in
    let front = open_front (own input start start_number vs vs (replicate 32768 0)) input start start_number (plan-clear input start start_number vs vs (replicate 32768 0) e).0 in
    let same = two_calls input start start_number vs vs (replicate 32768 0) (enough input front) in
    shown-done text input start k (same.answer_is ∙ e)
    ∙ ap (λ l. listed text start_number input l (done input start).order k (done input start).state) same.verdicts_are
    ∙ ap (λ l. listed text start_number input (plan input).verdicts l k (done input start).state) same.order_is
    ∙ ap (listed text start_number input (plan input).verdicts (plan input).order k)
    (same.commits k e vs (omega (arith, few.0, length-replicate {A = ℕ} 64 0))).1

shown-refuses : (text input : List ℕ) (number place : ℕ) → (plan input).answer ≡ refuses number place
    → shown input start text ≡ refused text number place
unfolding done
shown-refuses text input number place e =
    shown-not text input start number place (same_answer input start start_number (replicate 64 0) (replicate 64 0) (replicate 32768 0) (enough input) ∙ e)

-- the line of a refusal has room
line : (text : List ℕ) (number place : ℕ) → 65536 ≤ length text → refused text number place ≡ refusal number place
unfolding refused
line text number place h = rw (le-leb 64 (length text) (omega arith))

-- For every input the whole listing is written, or the refusal's line: nothing is ever left out or cut.
pub shown-all : (input : List ℕ) → Whole input (shown input start (replicate 65536 0))
shown-all input = (
  λ k e. shown-gives (replicate 65536 0) input k e
      ∙ whole (replicate 65536 0) input start (replicate 64 0) (replicate 64 0) (replicate 32768 0) (replicate 64 0) (long 65536 0) k e,
  λ number place e. shown-refuses (replicate 65536 0) input number place e ∙ line (replicate 65536 0) number place (long 65536 0),
)

-- And for whatever is read: the bytes are listed or refused so, "input beyond 32768 bytes gives 11", a read that failed gives nothing.
pub told-all :
    (page : List ℕ) →
    ((n : ℕ) → Whole (take n page) (told (Ok n) page start (replicate 65536 0)))
    × (told (Err TooLong) page start (replicate 65536 0) ≡ refusal 11 0)
    × (told (Err Failed) page start (replicate 65536 0) ≡ [])
told-all page = (λ n. shown-all (take n page), line (replicate 65536 0) 11 0 (long 65536 0), refl)

-- where the gate lets the input through: what plan leaves, and the state after the writes of the kept pages
abbrev pub clear_plan : List ℕ → Plans
clear_plan input = plans input (versions start) (sequence (versions start) (tx_at input) (pages input)) (replicate 64 0) (replicate 64 0) (replicate 32768 0)

pub shown-run :
    (input : List ℕ) (k : ℕ) → rowsFirst (plan_rows input start start_number (replicate 64 0) (replicate 64 0) (replicate 32768 0)) ≡ clear →
    (clear_plan input).answer ≡ gives k → k ≤ 64 →
    shown input start (replicate 65536 0)
    ≡ listing start_number input (clear_plan input).verdicts (clear_plan input).order k
    (run (tx_at input) start_number 0 (on_pages (tx_at input)) start (take k (clear_plan input).order))
shown-run input k c a h =
    let text : List ℕ = replicate 65536 0 in
    shown-gives text input k (plan-gives text input start (replicate 64 0) (replicate 64 0) (replicate 32768 0) (replicate 64 0) (long 65536 0) k c a)
    ∙ whole_run text input start (replicate 64 0) (replicate 64 0) (replicate 32768 0) (replicate 64 0) (long 65536 0) k c a
    (rw (length-replicate {A = ℕ} 64 0) h)
