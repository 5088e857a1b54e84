-- What reading a page leaves in the arrays that a transaction is lent in. Assumes nothing.
use mathlib.Core.Path.{◌≡◌, sym, ap, ◌∙◌}
use mathlib.Core.List.{List, [], ◌∷◌}
use Prim.Native.Nat.{ℕ}
use Rattle.refusals.specs.declared.Refusal.{Refusal}
use Rattle.refusals.specs.Outcome.{gives, refuses, number_of, outcome}
use Rattle.refusals.specs.Fault.{clear}
use Rattle.refusals.proofs.Rows.{judged-gives}
use Rattle.std.specs.Prelude.{Result, Ok, Err}
use Rattle.ledger.specs.declared.Counts.{Counts}
use Rattle.ledger.specs.Tx.{padded}
use Rattle.ledger.specs.Page.{page_tx, page_fault}
use Rattle.ledger.specs.Inner.{Counted}
use Rattle.ledger.specs.Services.{Taken, taken, check_page, read_page}
use Rattle.ledger.proofs.Faults.{taken_none, read_taken}
use Rattle.ledger.proofs.Pages.{good-counted}
use Rattle.node.specs.Word.{upper}
use Rattle.node.specs.Lent.{Arrays, arrays_of, arrays_on, PageLeft, page_left}

-- the arrays filled with the transaction on a page
pub record Laid (p : List ℕ) (b : Arrays) : Type 0 where
  pub head : b.head ≡ (arrays_on p).head
  pub read-keys : b.read_keys ≡ (arrays_on p).read_keys
  pub read-places : b.read_places ≡ (arrays_on p).read_places
  pub read-blocks : b.read_blocks ≡ (arrays_on p).read_blocks
  pub write-keys : b.write_keys ≡ (arrays_on p).write_keys
  pub write_kinds_lem : b.write_kinds ≡ (arrays_on p).write_kinds
  pub write-values : b.write_values ≡ (arrays_on p).write_values

laid : (p : List ℕ) (b : Arrays) → Laid p b → b ≡ arrays_on p
laid p b l = λ i. record {
  head = l.head i;
  read_keys = l.read-keys i;
  read_places = l.read-places i;
  read_blocks = l.read-blocks i;
  write_keys = l.write-keys i;
  write_kinds = l.write_kinds_lem i;
  write_values = l.write-values i;
}

-- what reading leaves, by the outcome
abbrev left : Arrays → Taken → PageLeft
left a y =
    elim y.answer [
      | gives c ↦ record { word = 0; arrays = arrays_of y.transaction }
      | refuses n q ↦ record { word = upper n q; arrays = a }
    ]

module _ (x : Result Counts Refusal) (p : List ℕ) (h : outcome x ≡ check_page p) where
  module _ (n : Counts) (e : x ≡ Ok n) where
    none : page_fault p ≡ clear
    none = taken_none p _ (ap outcome (sym e) ∙ h)

    pub page-counted : Counted p
    page-counted = good-counted p none

    -- the head by the counts that the check gives
    pub page-head : (ticket : ℕ) → ticket ≡ (page_tx p).ticket → n.reads ∷ n.writes ∷ ticket ∷ [] ≡ (arrays_on p).head
    unfolding arrays_of padded check_page
    page-head ticket t =
        let c = (judged-gives (page_fault p) _ _ (ap outcome (sym e) ∙ h)).1 in
        λ i. (c i).reads ∷ (c i).writes ∷ t i ∷ []

    pub page-good : (a b : Arrays) → Laid p b → record { word = 0; arrays = b } ≡ page_left p a
    unfolding page_left
    page-good a b l =
        ap (λ (b : Arrays). record { word = 0; arrays = b }) (laid p b l)
        ∙ ap (left a) (read_taken p none)

  pub page_bad : (a : Arrays) (f : Refusal) (w : ℕ) → w ≡ upper (number_of f.reason) f.place → x ≡ Err f → record { word = w; arrays = a } ≡ page_left p a
  unfolding page_left read_page
  page_bad a f w q e =
      ap (λ (y : ℕ). record { word = y; arrays = a }) q
      ∙ ap (λ o. left a (record { answer = o; transaction = (read_page p).transaction })) (ap outcome (sym e) ∙ h)
