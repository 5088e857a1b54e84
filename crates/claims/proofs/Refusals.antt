-- Demand 1: a number is given, with its place, exactly when the table says so, and a refusal changes nothing. Assumes nothing.
use Prim.Native.Nat.{ℕ, ◌+◌, ◌*◌, ◌/◌, ◌≤◌, ◌<◌}
use native.Mathlib.Omega.{arith}
use mathlib.Core.Bool.{Bool, ◌&&◌, ◌||◌}
use mathlib.Core.List.{List, [], ◌∷◌, ◌++◌}
use mathlib.Core.Logic.{◌↔◌, ◌⊎◌, inl, inr, ⊎_elim}
use mathlib.Core.Path.{◌≡◌}
use lib.ListN.{length}
use lib.IntN.{ℤ}
use lib.Dec.{T, eqb, leb, ltb, eqb→eq, leb→le, ltb→lt}
use borrow.Author.Tests.{lt-ltb, le-ltb}
use Rattle.refusals.specs.Outcome.{refuses}
use Rattle.lists.proofs.Tests.{and_left, and_right, of_true, or_cases}
use Rattle.refusals.specs.Fault.{fault, Row, first, Given, in_turn, each_row}
use Rattle.refusals.proofs.Rows.{judged_given, refused-after, row_cases, append_either, first_given, allow, allow_append, allow_turn, allow_each, allow_moved, given_allowed}
use Rattle.tonnage.specs.Services.{read_rows, read_text, write_text}
use Rattle.tonnage.specs.Services.{text_rows}
use Rattle.ledger.specs.declared.Transaction.{Transaction}
use Rattle.ledger.specs.Page.{size, page_at, count_rows, entry_rows, head_rows, whole_rows, page_rows}
use Rattle.ledger.specs.Services.{check_page, read_page, write_rows, write_fault, write_page}
use Rattle.ledger.specs.State.{State, keys, entry, wrong_entry, state_rows}
use Rattle.ledger.specs.Gate.{pages, tx_at, again, beyond, rows_at, front_rows, lent_row, pages_rows, gate_rows}
use Rattle.ledger.specs.Commit.{commit_rows, commit_batch}
use Rattle.ledger.specs.Byte.{PageByte, WriteByte, BatchByte}
use Rattle.ledger.proofs.Gated.{whole, sized}
use Rattle.ledger.proofs.Byte.{page-shown, write-shown, pages-shown}
use Rattle.planning.specs.Plan.{plan_rows, plan_batch}
use Rattle.planning.specs.Joined.{plan_and_commit}
use Rattle.planning.proofs.Joined.{joined-answer}
use Rattle.claims.specs.Joined.{joined_rows}

-- ---- the services on batches

module _ (batch : List ℕ) (s : State) (n : ℕ) (vs os out : List ℕ) where
  -- plan: "A refusal carries the number that document 01 gives it, exactly when 01 says"
  pub plan-refused : (m p : ℕ) → ((plan_batch batch s n vs os out).answer ≡ refuses m p) ↔ Given m p (plan_rows batch s n vs os out)
  unfolding plan_batch
  plan-refused = judged_given (plan_rows batch s n vs os out) _

  -- "and changes nothing lent"
  pub plan_unchanged :
      (m p : ℕ) → (plan_batch batch s n vs os out).answer ≡ refuses m p →
      ((plan_batch batch s n vs os out).verdicts ≡ vs) × ((plan_batch batch s n vs os out).order ≡ os) × ((plan_batch batch s n vs os out).out ≡ out)
  unfolding plan_batch
  plan_unchanged m p e =
      let f = first (plan_rows batch s n vs os out) in
      (refused-after f _ _ vs m p e, refused-after f _ _ os m p e, refused-after f _ _ out m p e)

module _ (batch : List ℕ) (s : State) (n : ℕ) (vs : List ℕ) where
  -- commit: the same
  pub commit-refused : (m p : ℕ) → ((commit_batch batch s n vs).answer ≡ refuses m p) ↔ Given m p (commit_rows batch s n vs)
  unfolding commit_batch
  commit-refused = judged_given (commit_rows batch s n vs) _

  pub commit_unchanged : (m p : ℕ) → (commit_batch batch s n vs).answer ≡ refuses m p → ((commit_batch batch s n vs).state ≡ s) × ((commit_batch batch s n vs).verdicts ≡ vs)
  unfolding commit_batch
  commit_unchanged m p e = let f = first (commit_rows batch s n vs) in (refused-after f _ _ s m p e, refused-after f _ _ vs m p e)

module _ (batch : List ℕ) (s : State) (n : ℕ) (vs os : List ℕ) where
  -- the joined call: "order and numbers as for plan, without the out batch in 14"
  pub joined-refused : (m p : ℕ) → ((plan_and_commit batch s n vs os).answer ≡ refuses m p) ↔ Given m p (joined_rows batch s n vs os)
  joined-refused m p = rw (joined-answer batch s n vs os) (judged_given (joined_rows batch s n vs os) _ m p)

  pub joined_unchanged :
      (m p : ℕ) → (plan_and_commit batch s n vs os).answer ≡ refuses m p →
      ((plan_and_commit batch s n vs os).state ≡ s) × ((plan_and_commit batch s n vs os).verdicts ≡ vs) × ((plan_and_commit batch s n vs os).order ≡ os)
  unfolding plan_and_commit
  joined_unchanged m p e = let u = plan_unchanged batch s n vs os _ m p e in (rw e, u.0, u.1)

-- ---- the services on pages

-- reading a page: "1 to 10 in turn", exactly as the table says
pub page-refused : (p : List ℕ) (n q : ℕ) → ((read_page p).answer ≡ refuses n q) ↔ Given n q (page_rows p)
unfolding read_page check_page
page-refused p = judged_given (page_rows p) _

-- writing a page: "4 to 9, then 17"
pub write-refused : (batch : List ℕ) (index : ℕ) (t : Transaction) (n q : ℕ) → ((write_page batch index t).answer ≡ refuses n q) ↔ Given n q (write_rows t index (length batch / 512))
unfolding write_page
write-refused batch index t = judged_given (write_rows t index (length batch / 512)) _

-- "and changes nothing lent"
pub write_unchanged : (batch : List ℕ) (index : ℕ) (t : Transaction) (n q : ℕ) → (write_page batch index t).answer ≡ refuses n q → (write_page batch index t).batch ≡ batch
unfolding write_page
write_unchanged batch index t n q e = refused-after (write_fault t index (length batch / 512)) _ _ _ n q e

-- "A transaction wider than its page is refused, never cut": with 5 where its counts are good, and the batch stays
pub wider_refused :
    (batch : List ℕ) (index : ℕ) (t : Transaction) → t.r ≤ 32 → t.w ≤ 32 → 500 < size t.r t.w →
    write_page batch index t ≡ record { answer = refuses 5 1; batch = batch }
unfolding write_page write_rows count_rows first
wider_refused batch index t h k l =
    rw (le-ltb 32 t.r h, le-ltb 32 t.w k, lt-ltb 500 (size t.r t.w) l)

-- ---- the services on texts

pub read-refused : (text : List ℕ) (n q : ℕ) → (read_text text ≡ refuses n q) ↔ Given n q (read_rows text)
unfolding read_text
read-refused text = judged_given (read_rows text) _

pub text-refused : (buffer : List ℕ) (z : ℤ) (n q : ℕ) → ((write_text buffer z).answer ≡ refuses n q) ↔ Given n q (text_rows buffer z)
unfolding write_text
text-refused buffer z = judged_given (text_rows buffer z) _

-- ---- what is given: each service's own numbers, of a batch never 1; the place is a byte of the page, in a batch one of the batch

abbrev from_to : ℕ → ℕ → ℕ → Bool
from_to a b n = leb a n && leb n b

from_to_lem : (a b n : ℕ) → T (from_to a b n) → (a ≤ n) × (n ≤ b)
from_to_lem a b n t = (leb→le a n (and_left (leb a n) (leb n b) t), leb→le n b (and_right (leb a n) (leb n b) t))

pub page_numbers : (p : List ℕ) (n q : ℕ) → (read_page p).answer ≡ refuses n q → (1 ≤ n) × (n ≤ 10) × (q < 512)
unfolding page_rows whole_rows head_rows count_rows entry_rows
page_numbers p n q e =
    let g = (page-refused p n q).0 e in
    let t = from_to_lem 1 10 n (given_allowed (λ m _. from_to 1 10 m) g tt) in
    (t.0, t.1, (page-shown p ((first_given n q (page_rows p)).1 g)).1)

pub write_numbers :
    (batch : List ℕ) (index : ℕ) (t : Transaction) (n q : ℕ) → (write_page batch index t).answer ≡ refuses n q →
    (((4 ≤ n) × (n ≤ 9)) ⊎ (n ≡ 17)) × (q < 512)
unfolding write_rows count_rows entry_rows
write_numbers batch index t n q e =
    let g = (write-refused batch index t n q).0 e in
    let a = given_allowed (λ m _. from_to 4 9 m || eqb m 17) g tt in (
      ⊎_elim (λ x. inl (from_to_lem 4 9 n x)) (λ x. inr (eqb→eq n 17 x)) (or_cases (from_to 4 9 n) (eqb n 17) a),
      (write-shown t index (length batch / 512) ((first_given n q (write_rows t index (length batch / 512))).1 g)).1,
    )

-- the rows that speak of the whole batch, of a key or of a page as such
abbrev in_batch : ℕ → ℕ → Bool
in_batch n p = from_to 11 16 n && ltb p 1024

below : (j : ℕ) → j < 1024 → T (ltb j 1024)
below j h = of_true (ltb j 1024) (lt-ltb j 1024 h)

-- what a refusal of plan, commit or the joined call is
abbrev Refusal : List ℕ → ℕ → ℕ → Type 0
Refusal batch m p = (2 ≤ m) × (m ≤ 16) × (p < 32768) × (m ≤ 10 → BatchByte batch m p)

in_batch_lem : (batch : List ℕ) (m p : ℕ) → T (in_batch m p) → Refusal batch m p
in_batch_lem batch m p t =
    let u = from_to_lem 11 16 m (and_left (from_to 11 16 m) (ltb p 1024) t) in
    let v = ltb→lt p 1024 (and_right (from_to 11 16 m) (ltb p 1024) t) in
    (omega (arith, u.0), u.1, omega arith, λ h. absurd (omega (arith, u.0)))

-- a table whose rows are all of that kind
all-batch : (batch : List ℕ) (rs : List Row) (m p : ℕ) → T (allow in_batch rs) → first rs ≡ fault m p → Refusal batch m p
all-batch batch rs m p a e = in_batch_lem batch m p (given_allowed in_batch ((first_given m p rs).0 e) a)

-- 2 to 10, of the pages of a batch that is whole
pages_given :
    (batch : List ℕ) (m p : ℕ) → (length batch ≡ pages batch * 512) × (pages batch ≤ 64) →
    first (in_turn (pages batch) (rows_at batch)) ≡ fault m p → Refusal batch m p
unfolding whole_rows head_rows count_rows entry_rows
pages_given batch m p w e =
    let rows = in_turn (pages batch) (rows_at batch) in
    let t = from_to_lem 2 10 m (given_allowed page ((first_given m p rows).0 e) (allow_turn page (pages batch) (rows_at batch) each)) in
    let b = pages-shown batch w.0 e in
    (t.0, omega (arith, t.1), omega (arith, b.within, w.1), λ _. b)
  where
    page : ℕ → ℕ → Bool
    page n q = from_to 2 10 n

    each : (j : ℕ) → j < pages batch → T (allow page (rows_at batch j))
    each j h = allow_moved page (λ q. j * 512 + q) (whole_rows (page_at batch j)) tt

-- where the batch is whole and the state has its size, what follows speaks of a byte of a batch of at most 64 pages, of a key
-- of at most 1024 or of a page
gate_given : (b : Bool) (batch : List ℕ) (s : State) (n m p : ℕ) → first (gate_rows (lent_row b ∷ []) batch s n) ≡ fault m p → Refusal batch m p
unfolding gate_rows front_rows state_rows pages_rows
gate_given b batch s n m p =
    row_cases _ _ (Refusal batch) (λ _. in_batch_lem batch 11 0 tt)
    (λ l.
    let w = whole batch l in
    row_cases _ _ (Refusal batch) (λ _. in_batch_lem batch 12 0 tt)
    (λ z e.
    ⊎_elim {C = Refusal batch m p}
    (all-batch batch entries m p (allow_each in_batch 13 (keys s) (λ k. wrong_entry n (entry s k)) (λ j h. below j (omega (arith, (sized s z).few)))))
    (λ x.
    row_cases _ _ (Refusal batch) (λ _. in_batch_lem batch 14 0 tt)
    (λ _ f.
    ⊎_elim {C = Refusal batch m p} (pages_given batch m p w)
    (λ y.
    all-batch batch (tickets ++ beyonds) m p
    (allow_append in_batch tickets beyonds
    (allow_each in_batch 15 (pages batch) (again batch) (λ j h. below j (omega (arith, w.1))))
    (allow_each in_batch 16 (pages batch) (λ i. beyond (keys s) (tx_at batch i)) (λ j h. below j (omega (arith, w.1)))))
    y.1)
    (append_either (in_turn (pages batch) (rows_at batch)) (tickets ++ beyonds) f))
    x.1)
    (append_either entries _ e)))
  where
    entries : List Row
    entries = each_row 13 (keys s) (λ k. wrong_entry n (entry s k))

    tickets : List Row
    tickets = each_row 15 (pages batch) (again batch)

    beyonds : List Row
    beyonds = each_row 16 (pages batch) (λ i. beyond (keys s) (tx_at batch i))

module _ (batch : List ℕ) (s : State) (n : ℕ) (vs os out : List ℕ) (m p : ℕ) (e : (plan_batch batch s n vs os out).answer ≡ refuses m p) where
  plan-refusal : Refusal batch m p
  plan-refusal = gate_given _ batch s n m p ((first_given m p (plan_rows batch s n vs os out)).1 ((plan-refused batch s n vs os out m p).0 e))

  pub plan_numbers : (2 ≤ m) × (m ≤ 16) × (p < 32768)
  plan_numbers = (plan-refusal.0, plan-refusal.1, plan-refusal.2)

  -- "Plan and commit hand it on as page times 512 plus offset"
  pub plan_byte : m ≤ 10 → BatchByte batch m p
  plan_byte = plan-refusal.3

module _ (batch : List ℕ) (s : State) (n : ℕ) (vs : List ℕ) (m p : ℕ) (e : (commit_batch batch s n vs).answer ≡ refuses m p) where
  commit-refusal : Refusal batch m p
  commit-refusal = gate_given _ batch s n m p ((first_given m p (commit_rows batch s n vs)).1 ((commit-refused batch s n vs m p).0 e))

  pub commit_numbers : (2 ≤ m) × (m ≤ 16) × (p < 32768)
  commit_numbers = (commit-refusal.0, commit-refusal.1, commit-refusal.2)

  pub commit_byte : m ≤ 10 → BatchByte batch m p
  commit_byte = commit-refusal.3

module _ (batch : List ℕ) (s : State) (n : ℕ) (vs os : List ℕ) (m p : ℕ) (e : (plan_and_commit batch s n vs os).answer ≡ refuses m p) where
  joined-refusal : Refusal batch m p
  joined-refusal = gate_given _ batch s n m p ((first_given m p (joined_rows batch s n vs os)).1 ((joined-refused batch s n vs os m p).0 e))

  pub joined_numbers : (2 ≤ m) × (m ≤ 16) × (p < 32768)
  joined_numbers = (joined-refusal.0, joined-refusal.1, joined-refusal.2)

  pub joined_byte : m ≤ 10 → BatchByte batch m p
  joined_byte = joined-refusal.3

-- ---- "Show me the byte": what the place of a page's refusal shows

-- "the page reader shall also give the offset of the fault within the page"
pub page_byte : (p : List ℕ) (n q : ℕ) → (read_page p).answer ≡ refuses n q → PageByte p n q
page_byte p n q e = (page-shown p ((first_given n q (page_rows p)).1 ((page-refused p n q).0 e))).0

-- "The writer gives the offset that the entry would have."
pub write_byte : (batch : List ℕ) (index : ℕ) (t : Transaction) (n q : ℕ) → (write_page batch index t).answer ≡ refuses n q → WriteByte t n q
write_byte batch index t n q e =
    let m = length batch / 512 in
    (write-shown t index m ((first_given n q (write_rows t index m)).1 ((write-refused batch index t n q).0 e))).0
