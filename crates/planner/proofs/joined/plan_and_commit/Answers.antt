use borrow.Author.Rules.{rules}
use Rattle.refusals.proofs.Answers.{handed}
use Rattle.ledger.proofs.Gated.{Through, gate_open, gate_fault, open_own}
use Rattle.ledger.specs.Inner.{Batch, Level, applied}
use Rattle.ledger.specs.Gate.{pages, lent_row}
use Rattle.ledger.specs.State.{lent, held, keys, versions}
use Rattle.planner.specs.Ranks.{Planned}
use Rattle.planner.proofs.Answered.{few, front_txs, front_below, named_below, named_txs}
use Rattle.planning.specs.Joined.{joined}
use Rattle.planning.proofs.Joined.{own, lists_long, joined-refused, joined-taken}
use Rattle.refusals.specs.Fault.{clear, finding}
use Prim.Native.Nat.{◌≤◌}
use lib.ListN.{length}
use lib.Seq.{length-take-le}
use mathlib.Core.List.{[], ◌∷◌}
use mathlib.Core.Path.{◌≡◌, refl, sym, ap, subst, ◌∙◌}
use native.Mathlib.Omega.{arith}
use Rattle.planner.proofs.joined.plan_and_commit.Goals as goal
use Rattle.planner.proofs.joined.plan_and_commit.Goals.{After-lent-lent, After-plan_pages-count, In_ok-gate_fault}

-- the gate is told of 14 and of the state, so that its table is the joined call's
asked : (c : After-lent-lent) → let a = c.args in
    gate_fault (lent_row c.lists_short-short.result ∷ []) a.batch.now (lent c.lent-lent.result) a.n
    ≡ gate_fault (own a.batch.now (held a.state.now) a.n a.verdicts.now a.order.now) a.batch.now (held a.state.now) a.n
asked c =
    let a = c.args in
    ap (λ s. gate_fault (lent_row c.lists_short-short.result ∷ []) a.batch.now s a.n) c.lent-lent.ensures
    ∙ ap (λ x. gate_fault (lent_row x ∷ []) a.batch.now (held a.state.now) a.n) c.lists_short-short.ensures

let_through : (c : In_ok-gate_fault) → let a = c.args in
    gate_fault (own a.batch.now (held a.state.now) a.n a.verdicts.now a.order.now) a.batch.now (held a.state.now) a.n ≡ clear
let_through c =
    let a = c.args in
    sym
    (c.in_ok-gate_fault.ensures.result_value
    ∙ ap (λ s. gate_fault (lent_row c.lists_short-short.result ∷ []) a.batch.now s a.n) c.lent-lent.ensures
    ∙ ap (λ x. gate_fault (lent_row x ∷ []) a.batch.now (held a.state.now) a.n) c.lists_short-short.ensures)

gated : (c : In_ok-gate_fault) → let a = c.args in Through a.batch.now (held a.state.now) a.n
gated c =
    let a = c.args in
    gate_open (own a.batch.now (held a.state.now) a.n a.verdicts.now a.order.now) a.batch.now (held a.state.now) a.n (let_through c)

-- the lists are long enough
long : (c : In_ok-gate_fault) → let m = pages c.args.batch.now in
    (m ≤ length c.args.verdicts.now) × (m ≤ length c.args.order.now)
long c =
    let a = c.args in
    lists_long a.batch.now (held a.state.now) a.n a.verdicts.now a.order.now
    (open_own (own a.batch.now (held a.state.now) a.n a.verdicts.now a.order.now) a.batch.now (held a.state.now) a.n (let_through c))

-- the plan, of the state that is held
made : (c : After-plan_pages-count) → let a = c.args in let p = c.plan_pages-count in
    Planned a.batch.now (versions (held a.state.now)) (pages a.batch.now) a.verdicts.now a.order.now p.result p.new.verdicts p.new.order
made c =
    let a = c.args in
    let p = c.plan_pages-count in
    subst (λ s. Planned a.batch.now (versions s) (pages a.batch.now) a.verdicts.now a.order.now p.result p.new.verdicts p.new.order) c.lent-lent.ensures p.ensures

pub returns-in_err-gate_fault : goal.returns-in_err-gate_fault
returns-in_err-gate_fault c =
    let a = c.args in
    record {
      same_lists = (refl, refl, refl);
      value =
          ap (λ r. joined r (held a.state.now) a.verdicts.now a.order.now) (handed c.from_residual.ensures.1)
          ∙ joined-refused a.batch.now (held a.state.now) a.n a.verdicts.now a.order.now refl
          (sym (c.in_err-gate_fault.ensures.result_value ∙ asked (goal.at.returns-in_err-gate_fault c).After-lent-lent));
    }

pub plan_pages-count-requires : goal.plan_pages-count-requires
plan_pages-count-requires c =
    let o = gated (goal.at.plan_pages-count-requires c).In_ok-gate_fault in
    record {
      batch = subst (λ s. Batch (keys s) c.args.batch.now (pages c.args.batch.now)) (sym c.lent-lent.ensures) o.ready;
      places_len = (subst Level (sym c.lent-lent.ensures) o.level).places;
      differ = o.differ;
      tickets_of = c.gate_fault.ensures.tickets_of (ap finding c.in_ok-gate_fault.was);
      room = long (goal.at.plan_pages-count-requires c).In_ok-gate_fault;
    }

pub apply_pages-requires : goal.apply_pages-requires
apply_pages-requires c =
    let o = gated (goal.at.apply_pages-requires c).In_ok-gate_fault in
    let p = c.plan_pages-count in
    let k = few _ _ _ _ _ _ _ p.ensures in
    let room : p.result ≤ length p.new.order = omega (arith, k, long (goal.at.apply_pages-requires c).In_ok-gate_fault, p.auto) in
    record {
      batch = o.ready;
      level = o.level;
      few = omega (arith, k, o.ready.few, length-take-le _ _ room);
      by_index = front_below c.args.batch.now p.new.order p.result room _ (named_below _ _ _ _ _ _ _ p.ensures);
    }

pub returns : goal.returns
returns c =
    let a = c.args in
    let e = made (goal.at.returns c).After-plan_pages-count in
    record {
      same_lists = search rules;
      value =
          joined-taken a.batch.now (held a.state.now) a.n a.verdicts.now a.order.now (let_through (goal.at.returns c).In_ok-gate_fault)
          e.count_is e.verdicts_are e.order_is
          (c.apply_pages.ensures.left
          ∙ ap (applied a.n 0 (held a.state.now)) (front_txs a.batch.now c.plan_pages-count.new.order c.plan_pages-count.result (omega (arith, few _ _ _ _ _ _ _ c.plan_pages-count.ensures, long (goal.at.returns c).In_ok-gate_fault, c.plan_pages-count.auto)) ∙ named_txs _ _ _ _ _ _ _ e));
    }
