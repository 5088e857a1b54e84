-- Each promise can be met: of each service there is a program, so what is proved of all speaks of some. Assumes nothing.
use Prim.Native.Nat.{ℕ, ◌/◌, ◌≤◌}
use mathlib.Core.List.{List}
use native.Mathlib.Omega.{arith}
use mathlib.Core.Logic.{⊎_elim}
use mathlib.Core.Path.{◌≡◌, refl, sym, ap, subst, ◌∙◌}
use lib.ListN.{length}
use Rattle.std.specs.Prelude.{Result, Ok, Err}
use Rattle.refusals.specs.declared.Refusal.{Refusal}
use Rattle.refusals.specs.Outcome.{Outcome, gives, refuses, outcome}
use Rattle.refusals.specs.Fault.{Fault, clear, fault}
use lib.Dec.{eqb, eqb→eq}
use lib.IntN.{ℤ}
use Rattle.refusals.proofs.Answers.{reason_of, numbered}
use Rattle.refusals.proofs.Rows.{given_allowed}
use Rattle.tonnage.specs.Services.{read_text, text_rows, write_text}
use Rattle.ledger.specs.declared.Transaction.{Transaction}
use Rattle.ledger.specs.Page.{page_fault}
use Rattle.ledger.specs.Services.{Taken, taken, no_transaction, read_page, WrittenPage, wrote_page, write_page, write_fault}
use Rattle.ledger.specs.Commit.{commit_batch}
use Rattle.ledger.proofs.Faults.{read_taken, read-refused, write_done, write-refused}
use Rattle.planning.specs.Plan.{plan_batch}
use Rattle.planning.specs.Joined.{plan_and_commit}
use Rattle.claims.specs.Programs.{PageReader, PageWriter, Planner, Committer, JoinedCall, TextReader, TextWriter}
use Rattle.claims.proofs.Refusals.{page_numbers, write_numbers, plan_numbers, commit_numbers, joined_numbers, text-refused}
use Rattle.claims.proofs.Texts.{refused_only}

-- an answer for each outcome whose number is one of document 01's
abbrev InTable : {A : Type 0} → Outcome A → Type 0
InTable o = (n p : ℕ) → o ≡ refuses n p → (1 ≤ n) × (n ≤ 20)

abbrev refused : ℕ → ℕ → Refusal
refused n p = record { reason = reason_of n; place = p }

abbrev answer : {A : Type 0} → Outcome A → Result A Refusal
answer (gives k) = Ok k
answer (refuses n p) = Err (refused n p)

answered : {A : Type 0} (o : Outcome A) → InTable o → outcome (answer o) ≡ o
answered (gives k) h = refl
answered (refuses n p) h = let b = h n p refl in ap (λ m. refuses m p) (numbered n b.0 b.1)

-- the seven

-- a transaction or a refusal
abbrev taking : Taken → Result Transaction Refusal
taking k = elim k.answer [ gives c ↦ Ok k.transaction | refuses n p ↦ Err (refused n p) ]

takes : (x : List ℕ) (f : Fault) → page_fault x ≡ f → taken (taking (read_page x)) ≡ read_page x
takes x clear h = subst (λ k. taken (taking k) ≡ k) (read_taken x h) refl
takes x (fault n q) h =
    let e = read-refused x n q h in
    let b = page_numbers x n q (sym (ap (λ (k : Taken). k.answer) e)) in
    subst (λ k. taken (taking k) ≡ k) e (ap (λ m. record { answer = refuses m q; transaction = no_transaction }) (numbered n b.0 (omega arith)))

pub page-reader : PageReader
page-reader = record { does = λ x. taking (read_page x); meets = λ x t. takes x (page_fault x) refl }

-- nothing or a refusal
abbrev writing : WrittenPage → Result Unit Refusal
writing k = elim k.answer [ gives c ↦ Ok tt | refuses n p ↦ Err (refused n p) ]

writes : (batch : List ℕ) (index : ℕ) (t : Transaction) (f : Fault) → write_fault t index (length batch / 512) ≡ f
    → let k = write_page batch index t in wrote_page (writing k) k.batch ≡ k
writes batch index t clear h = subst (λ k. wrote_page (writing k) k.batch ≡ k) (write_done batch index t h) refl
writes batch index t (fault n q) h =
    let e = write-refused batch index t n q h in
    let b = write_numbers batch index t n q (sym (ap (λ (k : WrittenPage). k.answer) e)) in
    let low : 1 ≤ n = ⊎_elim (λ x. omega (arith, x)) (λ x. omega (arith, x)) b.0 in
    let high : n ≤ 20 = ⊎_elim (λ x. omega (arith, x)) (λ x. omega (arith, x)) b.0 in
    subst (λ k. wrote_page (writing k) k.batch ≡ k) e (ap (λ m. record { answer = refuses m q; batch = batch }) (numbered n low high))

pub page-writer : PageWriter
page-writer = record {
  does = λ x.
      let p = write_page x.batch x.index x.transaction in
      record { answer = writing p; batch = p.batch };
  meets = λ x t. writes x.batch x.index x.transaction (write_fault x.transaction x.index (length x.batch / 512)) refl;
}

pub planner : Planner
planner = record {
  does = λ x.
      let p = plan_batch x.batch x.state x.number x.verdicts x.order x.out in
      record { answer = answer p.answer; verdicts = p.verdicts; order = p.order; out = p.out };
  meets = λ x t.
      let p = plan_batch x.batch x.state x.number x.verdicts x.order x.out in
      ap (λ (o : Outcome ℕ). record { answer = o; verdicts = p.verdicts; order = p.order; out = p.out })
      (answered p.answer (λ n q e. let b = plan_numbers x.batch x.state x.number x.verdicts x.order x.out n q e in (omega (arith, b.0), omega (arith, b.1))));
}

pub committer : Committer
committer = record {
  does = λ x.
      let c = commit_batch x.batch x.state x.number x.verdicts in
      record { answer = answer c.answer; state = c.state; verdicts = c.verdicts };
  meets = λ x t.
      let c = commit_batch x.batch x.state x.number x.verdicts in
      ap (λ (o : Outcome ℕ). record { answer = o; state = c.state; verdicts = c.verdicts })
      (answered c.answer (λ n q e. let b = commit_numbers x.batch x.state x.number x.verdicts n q e in (omega (arith, b.0), omega (arith, b.1))));
}

pub joined-call : JoinedCall
joined-call = record {
  does = λ x.
      let j = plan_and_commit x.batch x.state x.number x.verdicts x.order in
      record { answer = answer j.answer; state = j.state; verdicts = j.verdicts; order = j.order };
  meets = λ x t.
      let j = plan_and_commit x.batch x.state x.number x.verdicts x.order in
      ap (λ (o : Outcome ℕ). record { answer = o; state = j.state; verdicts = j.verdicts; order = j.order })
      (answered j.answer (λ n q e. let b = joined_numbers x.batch x.state x.number x.verdicts x.order n q e in (omega (arith, b.0), omega (arith, b.1))));
}

text-numbers : (text : List ℕ) → InTable (read_text text)
text-numbers text n p e =
    let r = (refused_only text n p e).0 in
    (⊎_elim (λ x. omega (arith, x)) (λ x. omega (arith, x)) r, ⊎_elim (λ x. omega (arith, x)) (λ x. omega (arith, x)) r)

pub text-reader : TextReader
text-reader = record { does = λ x. answer (read_text x); meets = λ x t. answered (read_text x) (text-numbers x) }

writer-numbers : (buffer : List ℕ) (z : ℤ) → InTable (write_text buffer z).answer
unfolding text_rows
writer-numbers buffer z n q e =
    let f : n ≡ 20 = eqb→eq n 20 (given_allowed (λ m _. eqb m 20) ((text-refused buffer z n q).0 e) tt) in
    (omega arith, omega arith)

pub text-writer : TextWriter
text-writer = record {
  does = λ x.
      let w = write_text x.buffer x.figure in
      record { answer = answer w.answer; buffer = w.text };
  meets = λ x t.
      let w = write_text x.buffer x.figure in
      ap (λ (o : Outcome ℕ). record { answer = o; text = w.text })
      (answered w.answer (writer-numbers x.buffer x.figure));
}
