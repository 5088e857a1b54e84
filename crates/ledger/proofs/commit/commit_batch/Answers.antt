use borrow.Author.Rules.{rules}
use Rattle.refusals.proofs.Answers.{handed}
use Rattle.ledger.proofs.Commits.{own, commit-refused, commit-taken}
use Rattle.ledger.proofs.Gated.{Through, gate_open, gate_fault, open_own}
use Rattle.ledger.specs.Commit.{committed}
use Rattle.ledger.specs.Gate.{txs}
use Rattle.ledger.specs.State.{held}
use Rattle.refusals.proofs.Rows.{row_none}
use Rattle.refusals.specs.Fault.{clear}
use borrow.Author.Tests.{ltb-false}
use mathlib.Core.List.{[]}
use mathlib.Core.Path.{◌≡◌, refl, sym, ap, ◌∙◌}
use Rattle.ledger.proofs.commit.commit_batch.Goals as goal
use Rattle.ledger.proofs.commit.commit_batch.Goals.{In_ok-gate_fault}

-- the gate is clear
let_through : (c : In_ok-gate_fault) → let a = c.args in
    gate_fault (own a.batch.now (held a.state.now) a.n a.verdicts.now) a.batch.now (held a.state.now) a.n ≡ clear
let_through c =
    let a = c.args in
    sym (c.in_ok-gate_fault.ensures.result_value ∙ ap (λ s. gate_fault (own a.batch.now s a.n a.verdicts.now) a.batch.now s a.n) c.lent.ensures)

gated : (c : In_ok-gate_fault) → let a = c.args in Through a.batch.now (held a.state.now) a.n
gated c =
    let a = c.args in
    gate_open (own a.batch.now (held a.state.now) a.n a.verdicts.now) a.batch.now (held a.state.now) a.n (let_through c)

pub returns-in_err-gate_fault : goal.returns-in_err-gate_fault
returns-in_err-gate_fault c =
    let a = c.args in
    record {
      same_lists = (refl, refl, refl);
      value =
          ap (λ r. committed r (held a.state.now) a.verdicts.now) (handed c.from_residual.ensures.1)
          ∙ commit-refused a.batch.now (held a.state.now) a.n a.verdicts.now refl
          (sym (c.in_err-gate_fault.ensures.result_value ∙ ap (λ s. gate_fault (own a.batch.now s a.n a.verdicts.now) a.batch.now s a.n) c.lent.ensures));
    }

pub commit_pages-requires : goal.commit_pages-requires
commit_pages-requires c =
    let a = c.args in
    let o = gated (goal.at.commit_pages-requires c).In_ok-gate_fault in
    record {
      batch = o.ready;
      level = o.level;
      enough = ltb-false _ _ (row_none _ [] (open_own (own a.batch.now (held a.state.now) a.n a.verdicts.now) a.batch.now (held a.state.now) a.n (let_through (goal.at.commit_pages-requires c).In_ok-gate_fault))).0;
    }

pub returns : goal.returns
unfolding txs
returns c = record {
  same_lists = search rules;
  value = commit-taken c.args.batch.now (held c.args.state.now) c.args.n c.args.verdicts.now (let_through (goal.at.returns c).In_ok-gate_fault) c.commit_pages.ensures.value;
}
