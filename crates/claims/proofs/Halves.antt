-- What the services for C return: the halves of each word give number and place back, or 0 and the count. Assumes nothing.
use Prim.Native.Nat.{ℕ, ◌/◌, ◌≤◌, ◌<◌}
use native.Mathlib.Omega.{arith}
use mathlib.Core.Bool.{true}
use mathlib.Core.List.{List}
use mathlib.Core.Logic.{⊎_elim}
use mathlib.Core.Path.{◌≡◌, sym, ap}
use lib.ListN.{length}
use lib.IntN.{ℤ}
use lib.Dec.{eqb}
use Rattle.lists.proofs.Membership.{those_shorter}
use Rattle.lists.specs.Tables.{tab}
use Rattle.lists.proofs.Tables.{length-tab}
use Rattle.refusals.specs.Outcome.{Outcome, gives, refuses}
use Rattle.refusals.specs.Fault.{first}
use Rattle.refusals.proofs.Rows.{judged-gives}
use Rattle.tonnage.specs.Text.{text_of}
use Rattle.tonnage.specs.Services.{in64, read_text, write_text}
use Rattle.tonnage.specs.Services.{text_rows}
use Rattle.tonnage.proofs.RoundTrip.{longest}
use Rattle.ledger.specs.declared.Transaction.{Transaction}
use Rattle.ledger.specs.declared.Counts.{Counts}
use Rattle.ledger.specs.Services.{read_page, write_fault, write_page}
use Rattle.ledger.specs.State.{State}
use Rattle.ledger.specs.Gate.{pages, tx_at, txs}
use Rattle.ledger.specs.Commit.{verdicts, passed, commit_rows, commit_batch}
use Rattle.ledger.proofs.Gated.{gate_open}
use Rattle.ledger.proofs.Commits.{own, verdicts-length}
use Rattle.planning.specs.Plan.{plan_batch}
use Rattle.planning.specs.Joined.{plan_and_commit}
use Rattle.planning.proofs.Few.{plan-room}
use Rattle.node.specs.Word.{upper, word, high, low, Told}
use Rattle.node.specs.Lent.{Arrays, page_left, text_left, written_left, put_left, commit_left, plan_left, joined_left}
use Rattle.claims.proofs.Refusals.{plan_numbers, commit_numbers, joined_numbers, page_numbers, write_numbers}
use Rattle.claims.proofs.Texts.{refused_only, refused_unchanged}

-- ---- words

-- a place below 2^32 leaves the number whole
halves : (n p w : ℕ) → w ≡ upper n p → p < 4294967296 → (high w ≡ n) × (low w ≡ p)
halves n p w e h = (omega arith, omega arith)

module _ {A : Type 0} (count : A → ℕ) (o : Outcome A) (w : ℕ)
    (refused : (n p : ℕ) → o ≡ refuses n p → (w ≡ upper n p) × (0 < n) × (n ≤ 20) × (p < 4294967296))
    (given : (a : A) → o ≡ gives a → (w ≡ count a) × (count a < 4294967296)) where
  told : Told count o w
  told = record {
    number = λ n p e. let r = refused n p e in (r.1, r.2, (halves n p w r.0 r.3).0);
    place = λ n p e. let r = refused n p e in (halves n p w r.0 r.3).1;
    counted = λ a e. let g = given a e in halves 0 (count a) w (omega (arith, g.0)) g.1;
  }

-- ---- the seven services: a count is as it is, and reading a page or a text and writing a page count 0

module _ (batch : List ℕ) (s : State) (n : ℕ) (vs os out : List ℕ) where
  pub plan-word : Told (λ k. k) (plan_batch batch s n vs os out).answer (plan_left (plan_batch batch s n vs os out)).word
  plan-word =
      told (λ k. k) (plan_batch batch s n vs os out).answer _
      (λ m p e.
      let b = plan_numbers batch s n vs os out m p e in
      (ap word e, omega (arith, b.0), omega (arith, b.1), omega (arith, b.2)))
      (λ k e. (ap word e, omega (arith, (plan-room batch s n vs os out k e).0)))

module _ (batch : List ℕ) (s : State) (n : ℕ) (vs : List ℕ) where
  -- no more pages pass than there are
  few_pass : (k : ℕ) → (commit_batch batch s n vs).answer ≡ gives k → k ≤ 64
  unfolding commit_batch passed txs
  few_pass k e =
      let j = judged-gives (first (commit_rows batch s n vs)) k (passed (verdicts n 0 s (txs batch))) (sym e) in
      let t = gate_open (own batch s n vs) batch s n j.0 in
      omega (
        arith,
        j.1,
        those_shorter (eqb 0) (verdicts n 0 s (tab (pages batch) (tx_at batch))),
        verdicts-length n 0 s (tab (pages batch) (tx_at batch)),
        length-tab (tx_at batch) (pages batch),
        t.ready.few,
      )

  pub commit-word : Told (λ k. k) (commit_batch batch s n vs).answer (commit_left (commit_batch batch s n vs)).word
  commit-word =
      told (λ k. k) (commit_batch batch s n vs).answer _
      (λ m p e.
      let b = commit_numbers batch s n vs m p e in
      (ap word e, omega (arith, b.0), omega (arith, b.1), omega (arith, b.2)))
      (λ k e. (ap word e, omega (arith, few_pass k e)))

module _ (batch : List ℕ) (s : State) (n : ℕ) (vs os : List ℕ) where
  pub joined_word : Told (λ k. k) (plan_and_commit batch s n vs os).answer (joined_left (plan_and_commit batch s n vs os)).word
  unfolding plan_and_commit
  joined_word =
      told (λ k. k) (plan_and_commit batch s n vs os).answer _
      (λ m p e.
      let b = joined_numbers batch s n vs os m p e in
      (ap word e, omega (arith, b.0), omega (arith, b.1), omega (arith, b.2)))
      (λ k e. (ap word e, omega (arith, (plan-room batch s n vs os _ k e).0)))

module _ (batch : List ℕ) (index : ℕ) (t : Transaction) where
  pub write_page-word : Told (λ k. k) (write_page batch index t).answer (put_left (write_page batch index t)).word
  unfolding write_page
  write_page-word =
      told (λ k. k) (write_page batch index t).answer _
      (λ n p e.
      let b = write_numbers batch index t n p e in
      let some : 0 < n = ⊎_elim (λ k. omega (arith, k.0)) (λ k. omega arith) b.0 in
      let few : n ≤ 20 = ⊎_elim (λ k. omega (arith, k.1)) (λ k. omega arith) b.0 in
      (ap word e, some, few, omega (arith, b.1)))
      (λ k e. (ap word e, omega (arith, (judged-gives (write_fault t index (length batch / 512)) k 0 (sym e)).1)))

module _ (p : List ℕ) (a : Arrays) where
  pub read_page-word : Told {A = Counts} (λ c. 0) (read_page p).answer (page_left p a).word
  unfolding page_left
  read_page-word =
      told (λ c. 0) (read_page p).answer _
      (λ n q e.
      let b = page_numbers p n q e in
      (rw (e, page_left), omega (arith, b.0), omega (arith, b.1), omega (arith, b.2)))
      (λ c e. (rw (e, page_left), omega arith))

module _ (text : List ℕ) (z : ℤ) where
  pub read_tonnage_word : Told {A = ℤ} (λ y. 0) (read_text text) (text_left text z).word
  unfolding text_left
  read_tonnage_word =
      told (λ y. 0) (read_text text) _
      (λ n q e.
      let r = refused_only text n q e in
      let some : 0 < n = ⊎_elim (λ k. omega arith) (λ k. omega arith) r.0 in
      let few : n ≤ 20 = ⊎_elim (λ k. omega arith) (λ k. omega arith) r.0 in
      (rw (e, text_left), some, few, omega (arith, r.1)))
      (λ y e. (rw (e, text_left), omega arith))

  pub write_tonnage_word :
      in64 z ≡ true → Told (λ k. k) (write_text text z).answer (written_left (write_text text z)).word
  unfolding write_text
  write_tonnage_word h =
      told (λ k. k) (write_text text z).answer _
      (λ n q e.
      let r = refused_unchanged text z n q e in
      (ap word e, omega (arith, r.0), omega (arith, r.0), omega (arith, r.1)))
      (λ k e.
      let g = judged-gives (first (text_rows text z)) k (length (text_of z)) (sym e) in
      (ap word e, omega (arith, g.1, longest z h)))
