-- Demand 3 is met: for each sequence of admission, and for the ticket order that plan uses. Assumes nothing.
use Prim.Native.Nat.{ℕ, ◌*◌, ◌<◌}
use mathlib.Core.List.Memᴰ
use mathlib.Core.List.{List, ◌∷◌}
use mathlib.Core.List.Permᴰ
use mathlib.Core.List.{Permᴰ}
use mathlib.Core.Logic.{⊎_elim}
use mathlib.Core.Path.{◌≡◌, refl, sym, ap, subst, ◌∙◌}
use lib.ListN.{length, take, drop, get_or-append}
use lib.Seq.{take-append_seam}
use lib.Dec.{T}
use Rattle.lists.specs.Members.{◌∈◌}
use Rattle.lists.proofs.Membership.{perm_in, perm-length}
use Rattle.refusals.specs.Outcome.{gives}
use Rattle.refusals.specs.Fault.{clear, first}
use Rattle.orders.specs.Chain.{Cycle}
use Rattle.orders.specs.Arrange.{Order}
use Rattle.orders.proofs.Chains.{cycle_mono}
use Rattle.orders.proofs.Arranged.{alike_perm}
use Rattle.lists.specs.Tables.{tab}
use Rattle.ledger.specs.Tx.{Tx}
use Rattle.ledger.specs.State.{State, versions}
use Rattle.ledger.specs.Gate.{pages, tx_at}
use Rattle.lists.proofs.Tables.{length-tab, get_or-tab}
use Rattle.ledger.proofs.Gated.{gate_open}
use Rattle.planning.specs.Plan.{current, before, sequence, kept, verdict, order, gathered, Plans, plans, plan_rows, plan_batch}
use Rattle.claims.specs.Third.{verdict_at, zeros, Sequence, Certain}
use Rattle.refusals.proofs.Answers.{value}
use Rattle.planning.proofs.Opened.{plan_open, plan-clear}
use Rattle.planning.proofs.Opened.{own as mine}
use Rattle.claims.proofs.AnyOrder.{zeros-out, zeros_in, zeros-distinct, make_third}
use Rattle.planning.proofs.Kept.{sequence-perm, kept-distinct, kept-current, kept_below, own_order, order_below}
use Rattle.planning.proofs.Kept.{verdict-kept, verdict-small, verdict-stale, closes_cycle}
use Rattle.planning.proofs.OutBatch.{out_front}

module _ (batch : List ℕ) (s : State) (n : ℕ) (seq vs os out : List ℕ) (q : Sequence batch s seq)
    (c : first (plan_rows batch s n vs os out) ≡ clear) where
  abbrev b : ℕ → Tx
  b = tx_at batch

  abbrev p : Plans
  p = plans batch (versions s) seq vs os out

  -- our own order
  abbrev own : List ℕ
  own = order b seq

  pub verdict-at : (i : ℕ) → i < pages batch → verdict_at p.verdicts i ≡ verdict (versions s) b seq i
  unfolding plans
  verdict-at i h =
      get_or-append (tab (pages batch) (verdict (versions s) b seq)) (drop (pages batch) vs) 3 i
      (rw (length-tab (verdict (versions s) b seq) (pages batch)) h)
      ∙ get_or-tab (verdict (versions s) b seq) (pages batch) i 3 h

  -- the pages with verdict 0 are the kept
  pub zeros-kept : Permᴰ (zeros batch p.verdicts) (kept b seq)
  zeros-kept =
      alike_perm (zeros batch p.verdicts) (kept b seq)
      (zeros-distinct batch p.verdicts) (kept-distinct (versions s) b (pages batch) seq q)
      (λ i. (there i, back i))
    where
      there : (i : ℕ) → i ∈ zeros batch p.verdicts → i ∈ kept b seq
      there i m =
          let w = zeros-out batch p.verdicts m in
          (verdict-kept (versions s) b (pages batch) seq q i).0 (sym (verdict-at i w.0) ∙ w.1)

      back : (i : ℕ) → i ∈ kept b seq → i ∈ zeros batch p.verdicts
      back i m =
          let h = kept_below (versions s) b (pages batch) seq q m in
          zeros_in batch p.verdicts i h (verdict-at i h ∙ (verdict-kept (versions s) b (pages batch) seq q i).1 m)

  own_is : Order (before b) (zeros batch p.verdicts) own
  own_is =
      let o = own_order (versions s) b (pages batch) seq q in
      record { all_once = Permᴰ.trans zeros-kept o.all_once; forward = o.forward }

  fresh : (i : ℕ) → i < pages batch → verdict_at p.verdicts i ≡ 0 → T (current (versions s) b i)
  fresh i h e =
      kept-current (versions s) b (pages batch) seq q ((verdict-kept (versions s) b (pages batch) seq q i).0 (sym (verdict-at i h) ∙ e))

  cycle : (i : ℕ) → i < pages batch → verdict_at p.verdicts i ≡ 2 → Cycle (before b) (i ∷ zeros batch p.verdicts)
  cycle i h e =
      cycle_mono (before b) {ks = i ∷ kept b seq}
      (λ x m. ⊎_elim Memᴰ.head (λ k. Memᴰ.tail (perm_in (Permᴰ.symm zeros-kept) k)) (Memᴰ.cases_cons m))
      (closes_cycle (versions s) b (pages batch) seq q i h (sym (verdict-at i h) ∙ e))

  order_front : take (length own) p.order ≡ own
  unfolding plans
  order_front = take-append_seam own (drop (length own) os)

  out-kept : take (512 * length own) p.out ≡ gathered batch own
  unfolding plans
  out-kept =
      out_front batch (pages batch) (gate_open (mine batch s n vs os out) batch s n c).ready.whole own
      (λ i k. order_below (versions s) b (pages batch) seq q k) out

  certain_own : Certain batch s n (length own) p
  certain_own = record {
    third = rw order_front (make_third (mine batch s n vs os out) batch s n p.verdicts own c fresh own_is cycle);
    out-pages = rw order_front out-kept;
    count = sym (perm-length own_is.all_once);
    each-verdict = λ i h. rw (verdict-at i h) (verdict-small (versions s) b seq i);
    stale = λ i h. rw (verdict-at i h) (verdict-stale (versions s) b seq i);
  }

-- over any sequence of admission
pub third :
    (batch : List ℕ) (s : State) (n : ℕ) (seq vs os out : List ℕ) (k : ℕ) →
    Sequence batch s seq →
    first (plan_rows batch s n vs os out) ≡ clear →
    (plans batch (versions s) seq vs os out).answer ≡ gives k →
    Certain batch s n k (plans batch (versions s) seq vs os out)
unfolding plans
third batch s n seq vs os out k q c a =
    subst (λ (j : ℕ). Certain batch s n j (plans batch (versions s) seq vs os out)) (value refl a)
    (certain_own batch s n seq vs os out q c)

-- the ticket order is the sequence that plan uses
pub demand_3 :
    (batch : List ℕ) (s : State) (n : ℕ) (vs os out : List ℕ) (k : ℕ) →
    (plan_batch batch s n vs os out).answer ≡ gives k →
    Certain batch s n k (plan_batch batch s n vs os out)
demand_3 batch s n vs os out k a =
    let seq = sequence (versions s) (tx_at batch) (pages batch) in
    let c = (plan-clear batch s n vs os out a).0 in
    let e = plan_open batch s n vs os out c in
    rw (← e)
    (third batch s n seq vs os out k (sequence-perm (versions s) (tx_at batch) (pages batch)) c
    (ap (λ (p : Plans). p.answer) e ∙ a))
