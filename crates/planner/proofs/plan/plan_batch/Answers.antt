use Rattle.ledger.proofs.Gated.{Through, gate_open, gate_fault, open_own}
use Rattle.ledger.specs.Gate.{pages, lent_row}
use Rattle.ledger.specs.State.{lent}
use Rattle.planner.proofs.Answered.{few, named_below, plan_copied}
use Rattle.planning.proofs.Opened.{own, not_short, plan-refused, plan_open}
use Rattle.planning.specs.Plan.{short, planned}
use Rattle.refusals.proofs.Answers.{handed}
use Rattle.refusals.specs.Fault.{clear, finding}
use Prim.Native.Nat.{◌*◌, ◌≤◌, ◌<◌}
use lib.Dec.{ltb}
use lib.ListN.{length}
use lib.Seq.{length-take-le, get_or-take}
use mathlib.Core.Bool.{◌||◌}
use mathlib.Core.List.{[], ◌∷◌}
use mathlib.Core.Path.{◌≡◌, refl, sym, ap, ap₂, ◌∙◌}
use native.Mathlib.Nat.{mul_comm}
use native.Mathlib.Omega.{arith}
use Rattle.planner.proofs.plan.plan_batch.Goals as goal
use Rattle.planner.proofs.plan.plan_batch.Goals.{In_ok-gate_fault, Joined-lists_short, then-lists_short, else-lists_short}

-- what the gate is told of 14
is-short : (c : Joined-lists_short) → c.if-lists_short.short ≡ short c.args.batch.now c.args.verdicts.now c.args.order.now c.args.out.now
is-short c =
    let m = pages c.args.batch.now in
    let lists = c.lists_short.ensures in
    elim c.if-lists_short.branch [
      | then-lists_short w ↦ w.short-is ∙ w.if-lists_short.true ∙ ap (λ x. x || ltb (length c.args.out.now) (512 * m)) (sym w.if-lists_short.true ∙ lists)
      | else-lists_short w ↦ w.short-is ∙ ap₂ (λ x y. x || ltb (length c.args.out.now) y) (sym w.if-lists_short.false ∙ lists) (mul_comm m 512)
    ]

-- so its table is plan's
let_through : (c : In_ok-gate_fault) → c.if-lists_short.short ≡ short c.args.batch.now c.args.verdicts.now c.args.order.now c.args.out.now → gate_fault (own c.args.batch.now (lent c.args.state) c.args.n c.args.verdicts.now c.args.order.now c.args.out.now) c.args.batch.now (lent c.args.state) c.args.n ≡ clear
let_through c told = sym (c.in_ok-gate_fault.ensures.result_value ∙ ap (λ x. gate_fault (lent_row x ∷ []) c.args.batch.now (lent c.args.state) c.args.n) told)

gated : (c : In_ok-gate_fault) → c.if-lists_short.short ≡ short c.args.batch.now c.args.verdicts.now c.args.order.now c.args.out.now → Through c.args.batch.now (lent c.args.state) c.args.n
gated c told = gate_open (own c.args.batch.now (lent c.args.state) c.args.n c.args.verdicts.now c.args.order.now c.args.out.now) c.args.batch.now (lent c.args.state) c.args.n (let_through c told)

-- the lists are long enough
long : (c : In_ok-gate_fault) → c.if-lists_short.short ≡ short c.args.batch.now c.args.verdicts.now c.args.order.now c.args.out.now → let m = pages c.args.batch.now in
    (m ≤ length c.args.verdicts.now) × (m ≤ length c.args.order.now) × (m * 512 ≤ length c.args.out.now)
long c told =
    not_short c.args.batch.now (lent c.args.state) c.args.n c.args.verdicts.now c.args.order.now c.args.out.now
    (open_own (own c.args.batch.now (lent c.args.state) c.args.n c.args.verdicts.now c.args.order.now c.args.out.now) c.args.batch.now (lent c.args.state) c.args.n (let_through c told))

pub returns-in_err-gate_fault : goal.returns-in_err-gate_fault
returns-in_err-gate_fault c =
    ap (λ r. planned r c.args.verdicts.now c.args.order.now c.args.out.now) (handed c.from_residual.ensures.1)
    ∙ plan-refused c.args.batch.now (lent c.args.state) c.args.n c.args.verdicts.now c.args.order.now c.args.out.now refl
    (sym (c.in_err-gate_fault.ensures.result_value ∙ ap (λ x. gate_fault (lent_row x ∷ []) c.args.batch.now (lent c.args.state) c.args.n) (is-short (goal.at.returns-in_err-gate_fault c).Joined-lists_short)))

pub plan_pages-count-requires : goal.plan_pages-count-requires
plan_pages-count-requires c =
    let o = gated (goal.at.plan_pages-count-requires c).In_ok-gate_fault (is-short (goal.at.plan_pages-count-requires c).Joined-lists_short) in
    let l = long (goal.at.plan_pages-count-requires c).In_ok-gate_fault (is-short (goal.at.plan_pages-count-requires c).Joined-lists_short) in
    record {
      batch = o.ready;
      places_len = o.level.places;
      differ = o.differ;
      tickets_of = c.gate_fault.ensures.tickets_of (ap finding c.in_ok-gate_fault.was);
      room = (l.0, l.1);
    }

pub fill_out-requires : goal.fill_out-requires
fill_out-requires c =
    let l = long (goal.at.fill_out-requires c).In_ok-gate_fault (is-short (goal.at.fill_out-requires c).Joined-lists_short) in
    let p = c.plan_pages-count in
    let k = few _ _ _ _ _ _ _ p.ensures in
    let fits : p.result ≤ length p.new.order = omega (arith, k, l.1, p.auto) in
    let whole = (gated (goal.at.fill_out-requires c).In_ok-gate_fault (is-short (goal.at.fill_out-requires c).Joined-lists_short)).ready.whole in
    record {
      room = omega (arith, l.2, k, length-take-le p.result p.new.order fits);
      by_index = λ j h.
          let within : j < p.result = omega (arith, length-take-le p.result p.new.order fits) in
          omega (arith, get_or-take p.result p.new.order j 0 within, named_below _ _ _ _ _ _ _ p.ensures j within, whole);
    }

pub returns : goal.returns
returns c =
    plan_copied _ _ _ _ _ _ _ c.plan_pages-count.ensures _ _ c.fill_out.ensures
    ∙ plan_open c.args.batch.now (lent c.args.state) c.args.n c.args.verdicts.now c.args.order.now c.args.out.now (let_through (goal.at.returns c).In_ok-gate_fault (is-short (goal.at.returns c).Joined-lists_short))
