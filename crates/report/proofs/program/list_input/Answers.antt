-- `list_input`: the refusal's line, or the listing of what the joined call leaves.
use Prim.Native.Nat.{ℕ}
use mathlib.Core.Path.{◌≡◌, sym, ap, subst, ◌∙◌}
use mathlib.Core.List.{List}
use lib.ListN.{replicate}
use Rattle.refusals.specs.declared.Refusal.{Refusal}
use Rattle.std.specs.Prelude.{Result}
use Rattle.ledger.specs.State.{State}
use Rattle.planning.specs.Joined.{joined, plan_and_commit}
use Rattle.report.specs.Listing.{listed, refused}
use Rattle.report.specs.Program.{start_number, done}
use Rattle.report.proofs.Told.{Told, told-refused, told-listed}
use Rattle.report.proofs.program.list_input.Goals as goal

-- where the answer is known
is-done : (input : List ℕ) (s t : State) (vs os : List ℕ) (r a : Result ℕ Refusal) → r ≡ a → joined r t vs os ≡ plan_and_commit input s start_number (replicate 64 0) (replicate 64 0) → joined a t vs os ≡ done input s
unfolding done
is-done input s t vs os r a e d = ap (λ (x : Result ℕ Refusal). joined x t vs os) (sym e) ∙ d

pub returns-in-Err : goal.returns-in-Err
returns-in-Err c =
    let f = c.in-Err.refusal in
    let e = c.fill_refusal in
    let x = told-refused _ _ _ f _ _ _ (is-done _ _ _ _ _ _ _ c.in-Err.is c.plan_and_commit-answer.ensures.value) _ _
    (subst (λ n. Told c.args.text.now (refused c.args.text.now n f.place) e.result e.new.out) c.number.ensures (e.ensures.value, e.ensures.out_after)) in
    record {
      same_lists = c.plan_and_commit-answer.ensures.same_lists;
      result_value = x.result_value;
      text_after = x.text_after;
      left_after = x.left_after;
    }

pub returns-in-Ok : goal.returns-in-Ok
returns-in-Ok c =
    let p = c.plan_and_commit-answer in
    let e = c.fill_listing in
    let x = told-listed _ _ _ _ _ _ _ (is-done _ _ _ _ _ _ _ c.in-Ok.is p.ensures.value) _ _
    (subst
    (λ s. Told c.args.text.now (listed c.args.text.now start_number c.args.input.now p.new.verdicts p.new.order c.in-Ok.kept s) e.result e.new.out)
    c.lent.ensures (e.ensures.result_value, e.ensures.out_after)) in
    record {
      same_lists = p.ensures.same_lists;
      result_value = x.result_value;
      text_after = x.text_after;
      left_after = x.left_after;
    }
