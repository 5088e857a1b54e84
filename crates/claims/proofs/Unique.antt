-- Any two outcomes that a service's promise allows are equal. Assumes nothing.
use Prim.Native.Nat.{ℕ}
use mathlib.Core.List.{List}
use mathlib.Core.Path.{◌≡◌, refl, sym, ap, ◌∙◌}
use lib.IntN.{ℤ}
use Rattle.std.specs.Prelude.{Result, Ok, Err}
use Rattle.refusals.specs.declared.Refusal.{Refusal}
use Rattle.refusals.specs.Outcome.{outcome}
use Rattle.refusals.proofs.Answers.{same-refusal, one_answer, apart, number, place}
use Rattle.ledger.specs.declared.Transaction.{Transaction}
use Rattle.ledger.specs.declared.Counts.{Counts}
use Rattle.ledger.specs.Services.{check_page, Taken, taken, read_page, WrittenPage, wrote_page, write_page}
use Rattle.ledger.specs.State.{State}
use Rattle.ledger.specs.Commit.{Commits, committed, commit_batch}
use Rattle.planning.specs.Plan.{Plans, planned, plan_batch}
use Rattle.planning.specs.Joined.{Joined, joined, plan_and_commit}
use Rattle.tonnage.specs.Services.{read_text, WrittenText, wrote, write_text}

-- reading a tonnage text
pub read_tonnage : (text : List ℕ) (r q : Result ℤ Refusal) → outcome r ≡ read_text text → outcome q ≡ read_text text → r ≡ q
read_tonnage text r q h k = one_answer r q (h ∙ sym k)

-- writing a tonnage text: the answer, and the lent buffer
pub write_tonnage :
    (buffer : List ℕ) (z : ℤ) (r q : Result ℕ Refusal) (b c : List ℕ) →
    wrote r b ≡ write_text buffer z → wrote q c ≡ write_text buffer z → (r ≡ q) × (b ≡ c)
write_tonnage buffer z r q b c h k =
    let e = h ∙ sym k in
    (one_answer r q (ap (λ (w : WrittenText). w.answer) e), ap (λ (w : WrittenText). w.text) e)

-- ---- pages

-- checking a page
pub check-page : (page : List ℕ) (x y : Result Counts Refusal) → outcome x ≡ check_page page → outcome y ≡ check_page page → x ≡ y
check-page page x y h k = one_answer x y (h ∙ sym k)

-- reading a page: the transaction, or the refusal
one_taken : (x y : Result Transaction Refusal) → taken x ≡ taken y → x ≡ y
one_taken (Ok t) (Ok u) e = ap Ok (ap (λ (k : Taken). k.transaction) e)
one_taken (Ok t) (Err r) e = absurd (apart refl (ap (λ (k : Taken). k.answer) e))
one_taken (Err r) (Ok t) e = absurd (apart refl (sym (ap (λ (k : Taken). k.answer) e)))
one_taken (Err r) (Err q) e =
    let f = ap (λ (k : Taken). k.answer) e in
    ap Err (same-refusal r q (number refl f) (place refl f))

pub read-page : (page : List ℕ) (x y : Result Transaction Refusal) → taken x ≡ read_page page → taken y ≡ read_page page → x ≡ y
read-page page x y h k = one_taken x y (h ∙ sym k)

-- writing a page: the answer, and the lent batch
one-written : (x y : Result Unit Refusal) (b c : List ℕ) → wrote_page x b ≡ wrote_page y c → x ≡ y
one-written (Ok t) (Ok u) b c e = refl
one-written (Ok t) (Err r) b c e = absurd (apart refl (ap (λ (w : WrittenPage). w.answer) e))
one-written (Err r) (Ok t) b c e = absurd (apart refl (sym (ap (λ (w : WrittenPage). w.answer) e)))
one-written (Err r) (Err q) b c e =
    let f = ap (λ (w : WrittenPage). w.answer) e in
    ap Err (same-refusal r q (number refl f) (place refl f))

written-batch : (x y : Result Unit Refusal) (b c : List ℕ) → wrote_page x b ≡ wrote_page y c → b ≡ c
written-batch (Ok t) (Ok u) b c e = ap (λ (w : WrittenPage). w.batch) e
written-batch (Ok t) (Err r) b c e = ap (λ (w : WrittenPage). w.batch) e
written-batch (Err r) (Ok t) b c e = ap (λ (w : WrittenPage). w.batch) e
written-batch (Err r) (Err q) b c e = ap (λ (w : WrittenPage). w.batch) e

pub write-page :
    (batch : List ℕ) (index : ℕ) (t : Transaction) (x y : Result Unit Refusal) (b c : List ℕ) →
    wrote_page x b ≡ write_page batch index t → wrote_page y c ≡ write_page batch index t → (x ≡ y) × (b ≡ c)
write-page batch index t x y b c h k =
    let e = h ∙ sym k in
    (one-written x y b c e, written-batch x y b c e)

-- ---- batches

-- committing a batch: the answer, the three lists and the verdicts
pub commit-batch :
    (batch : List ℕ) (s : State) (n : ℕ) (lent : List ℕ) (x y : Result ℕ Refusal) (t u : State) (vs ws : List ℕ) →
    committed x t vs ≡ commit_batch batch s n lent → committed y u ws ≡ commit_batch batch s n lent →
    (x ≡ y) × (t ≡ u) × (vs ≡ ws)
commit-batch batch s n lent x y t u vs ws h k =
    let e = h ∙ sym k in (
      one_answer x y (ap (λ (c : Commits). c.answer) e),
      ap (λ (c : Commits). c.state) e,
      ap (λ (c : Commits). c.verdicts) e,
    )

-- planning a batch: the answer, the verdicts, the order list and the out batch
pub plan-batch :
    (batch : List ℕ) (s : State) (n : ℕ) (v o w : List ℕ) (x y : Result ℕ Refusal) (vs ws os qs b c : List ℕ) →
    planned x vs os b ≡ plan_batch batch s n v o w → planned y ws qs c ≡ plan_batch batch s n v o w →
    (x ≡ y) × (vs ≡ ws) × (os ≡ qs) × (b ≡ c)
plan-batch batch s n v o w x y vs ws os qs b c h k =
    let e = h ∙ sym k in (
      one_answer x y (ap (λ (p : Plans). p.answer) e),
      ap (λ (p : Plans). p.verdicts) e,
      ap (λ (p : Plans). p.order) e,
      ap (λ (p : Plans). p.out) e,
    )

-- planning and committing it at once: the answer, the three lists, the verdicts and the order list
pub plan-and-commit :
    (batch : List ℕ) (s : State) (n : ℕ) (v o : List ℕ) (x y : Result ℕ Refusal) (t u : State) (vs ws os qs : List ℕ) →
    joined x t vs os ≡ plan_and_commit batch s n v o → joined y u ws qs ≡ plan_and_commit batch s n v o →
    (x ≡ y) × (t ≡ u) × (vs ≡ ws) × (os ≡ qs)
plan-and-commit batch s n v o x y t u vs ws os qs h k =
    let e = h ∙ sym k in (
      one_answer x y (ap (λ (j : Joined). j.answer) e),
      ap (λ (j : Joined). j.state) e,
      ap (λ (j : Joined). j.verdicts) e,
      ap (λ (j : Joined). j.order) e,
    )
