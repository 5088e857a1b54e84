use Rattle.refusals.proofs.Answers.{told, handed}
use Rattle.ledger.proofs.Gated.{front_whole, gate_front, gate_own, gate_pages}
use Rattle.ledger.specs.Gate.{lent_row, front_rows, pages_rows}
use Rattle.ledger.specs.State.{lent}
use Rattle.refusals.proofs.Rows.{no_fault, row_there, one-clear}
use Rattle.refusals.specs.Fault.{clear, first, finding}
use mathlib.Core.List.{[], ◌∷◌}
use mathlib.Core.Path.{◌≡◌, sym, ap, ◌∙◌}
use native.Mathlib.Omega.{arith}
use Rattle.ledger.proofs.batch.gate_fault.Goals as goal
use Rattle.ledger.proofs.batch.gate_fault.Goals.{In_ok-front_fault}

-- the front is clear
front : (c : In_ok-front_fault) → first (front_rows c.args.batch.now (lent c.args.state) c.args.n) ≡ clear
front c = sym c.in_ok-front_fault.ensures

pub returns-in_err-front_fault : goal.returns-in_err-front_fault
returns-in_err-front_fault c =
    let e = ap finding (handed c.from_residual.ensures.1) in
    record {
      result_value = e ∙ sym (gate_front (lent_row c.args.short ∷ []) c.args.batch.now (lent c.args.state) c.args.n (sym c.in_err-front_fault.ensures));
      tickets_of = λ none. absurd (no_fault none e);
    }

pub returns-then-short : goal.returns-then-short
returns-then-short c = record {
  result_value = (told c.at.ensures) ∙ sym (gate_own (lent_row c.args.short ∷ []) c.args.batch.now (lent c.args.state) c.args.n (front (goal.at.returns-then-short c).In_ok-front_fault) (row_there (lent_row c.args.short) [] c.if-short.true));
  tickets_of = λ none. absurd (no_fault none (told c.at.ensures));
}

pub fill_tickets-requires : goal.fill_tickets-requires
fill_tickets-requires c =
    omega (arith, front_whole c.args.batch.now (lent c.args.state) c.args.n (front (goal.at.fill_tickets-requires c).In_ok-front_fault))

pub pages_fault-requires : goal.pages_fault-requires
pages_fault-requires c = record {
  batch_len_bound = omega (arith, front_whole c.args.batch.now (lent c.args.state) c.args.n (front (goal.at.pages_fault-requires c).In_ok-front_fault));
  tickets_of = c.fill_tickets.ensures;
}

pub returns : goal.returns
returns c = record {
  result_value = c.pages_fault.ensures ∙ ap (λ k. first (pages_rows c.args.batch.now k)) c.keys.ensures ∙ sym (gate_pages (lent_row c.args.short ∷ []) c.args.batch.now (lent c.args.state) c.args.n (front (goal.at.returns c).In_ok-front_fault) (one-clear 14 0 c.args.short c.if-short.false));
  tickets_of = λ none. c.fill_tickets.ensures;
}
