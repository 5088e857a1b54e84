-- Answers told apart: a value is no refusal, and an outcome is that of one answer only. Assumes nothing.
use Prim.Native.Nat.{ℕ, zero, suc, ◌≤◌}
use lib.Dec.{eqb}
use borrow.Author.Tests.{eqb-true, not-false}
use mathlib.Core.Bool.{Bool, false, not}
use Rattle.lists.specs.Search.{seek, first_in, some_in}
use Rattle.lists.proofs.Searches.{missed}
use native.Mathlib.Omega.{arith}
use mathlib.Core.List.{List, [], ◌∷◌}
use mathlib.Core.Path.{◌≡◌, refl, sym, ap, ◌∙◌}
use Rattle.refusals.specs.declared.Refusal.{Refusal}
use Rattle.refusals.specs.declared.Reason.{Reason}
use Rattle.refusals.specs.declared.Reason.TheVariants.{PageLength, Check, Mark, Counts, Size, ReadKeys, ReadVersion, WriteKeys, WriteKind, SpareByte, BatchLength, StateLength, StateEntry, LentTooShort, TicketAgain, KeyBeyondState, PageIndex, TextForm, TextRange, TextBuffer}
use Rattle.refusals.specs.Outcome.{Outcome, gives, refuses, number_of, outcome}
use Rattle.refusals.specs.Fault.{is_clear, finding}
use Rattle.std.specs.Result.{IsErrAnd, is_ok}
use Rattle.std.proofs.lemmas.Result.{err_from_is_err_and}
use Rattle.std.specs.Prelude.{Result, Ok, Err, get_or}

-- ---- outcomes

module _ {A : Type 0} {o : Outcome A} where
  pub apart : {a : A} {n p : ℕ} → o ≡ gives a → o ≡ refuses n p → ⊥
  apart e f = let z : ◌≡◌ {A = ℕ} 0 1 = cc in omega arith

  pub value : {a b : A} → o ≡ gives a → o ≡ gives b → a ≡ b
  value e f = cc

  pub number : {m p n q : ℕ} → o ≡ refuses m p → o ≡ refuses n q → m ≡ n
  number e f = cc

  pub place : {m p n q : ℕ} → o ≡ refuses m p → o ≡ refuses n q → p ≡ q
  place e f = cc

-- ---- answers

-- the reasons by their numbers
reasons : List Reason
reasons =
    PageLength ∷ PageLength ∷ Check ∷ Mark ∷ Counts ∷ Size ∷ ReadKeys ∷ ReadVersion ∷ WriteKeys ∷ WriteKind ∷ SpareByte ∷
    BatchLength ∷ StateLength ∷ StateEntry ∷ LentTooShort ∷ TicketAgain ∷ KeyBeyondState ∷ PageIndex ∷ TextForm ∷ TextRange ∷ TextBuffer ∷ []

-- the reason of a number
pub reason_of : ℕ → Reason
unfolding reasons
reason_of n = get_or reasons n PageLength

-- each stands at its number
stands : (r : Reason) → reason_of (number_of r) ≡ r
unfolding reason_of reasons
stands PageLength = refl
stands Check = refl
stands Mark = refl
stands Counts = refl
stands Size = refl
stands ReadKeys = refl
stands ReadVersion = refl
stands WriteKeys = refl
stands WriteKind = refl
stands SpareByte = refl
stands BatchLength = refl
stands StateLength = refl
stands StateEntry = refl
stands LentTooShort = refl
stands TicketAgain = refl
stands KeyBeyondState = refl
stands PageIndex = refl
stands TextForm = refl
stands TextRange = refl
stands TextBuffer = refl

-- a reason is told by its number
pub same-reason : (r q : Reason) → number_of r ≡ number_of q → r ≡ q
same-reason r q e = sym (stands r) ∙ ap reason_of e ∙ stands q

-- and each number from 1 to 20 is that of its reason
off : ℕ → Bool
off m = not (eqb (number_of (reason_of (suc m))) (suc m))

none_off : some_in off 0 20 ≡ false
unfolding off reason_of reasons first_in seek
none_off = refl

pub numbered : (n : ℕ) → 1 ≤ n → n ≤ 20 → number_of (reason_of n) ≡ n
unfolding off
numbered zero h k = absurd (omega arith)
numbered (suc m) h k = eqb-true _ _ (not-false _ (missed off 20 none_off m (omega arith)))

-- a refusal is its number and its place
pub same-refusal : (r q : Refusal) → number_of r.reason ≡ number_of q.reason → r.place ≡ q.place → r ≡ q
same-refusal r q n p = let e = same-reason r.reason q.reason n in λ i. record { reason = e i; place = p i }

-- what a test tells that gives a refusal
pub told : {r q : Refusal} → r ≡ q → finding (Err r) ≡ finding (Err q)
told e = ap (λ r. finding (Err r)) e

-- the same of a service
pub given : {A : Type 0} {r q : Refusal} → r ≡ q → outcome {A = A} (Err r) ≡ outcome (Err q)
given {A} e = ap (λ r. outcome {A = A} (Err r)) e

-- nothing is found where the answer is good
pub clear-ok : (r : Result Unit Refusal) → is_ok r ≡ is_clear (finding r)
clear-ok (Ok u) = refl
clear-ok (Err r) = refl

-- what `?` hands on is the refusal that it met
pub handed : {A : Type 0} {s : Result A Refusal} {x : Refusal} → IsErrAnd s (λ y. y ≡ x) → s ≡ Err x
handed {A} {s} {x} h = let p = err_from_is_err_and s h in p.1 ∙ ap Err p.2

-- two answers with one outcome are the same
pub one_answer : {A : Type 0} (a b : Result A Refusal) → outcome a ≡ outcome b → a ≡ b
one_answer (Ok j) (Ok k) e = cc
one_answer (Ok j) (Err r) e = cc
one_answer (Err r) (Ok k) e = cc
one_answer (Err r) (Err q) e = ap Err (same-refusal r q (cc) (cc))
