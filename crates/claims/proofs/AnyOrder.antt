-- Demand 3 over any current pages of a batch that the gate lets through, and any order of them. Assumes nothing.
use Prim.Native.Nat.{ℕ, zero, suc, ◌≤◌, ◌<◌}
use native.Mathlib.Omega.{arith}
use mathlib.Core.Bool.{not}
use mathlib.Core.List.Memᴰ
use mathlib.Core.List.Permᴰ
use mathlib.Core.List.{List, ◌∷◌, ◌++◌}
use mathlib.Core.Path.{◌≡◌, refl, ap}
use lib.ListN.{length, drop, replicate}
use lib.Dec.{T, T_not, not_T, eqb, eqb_refl, eqb→eq}
use borrow.Author.Tests.{eq-eqb}
use Rattle.lists.specs.Members.{◌∈◌, distinct}
use Rattle.lists.specs.Tables.{upto}
use Rattle.lists.proofs.Tests.{and_left, of_true}
use Rattle.lists.proofs.Membership.{those_in, those-out, perm_in, perm-distinct, distinct-those}
use Rattle.lists.proofs.Membership.{upto_below, upto_all, upto-distinct, upto-length}
use Rattle.refusals.specs.Outcome.{gives}
use Rattle.refusals.specs.Fault.{clear, Row}
use Rattle.orders.specs.Chain.{Cycle}
use Rattle.orders.specs.Arrange.{Order}
use Rattle.orders.proofs.Arranged.{no_longer, order_acyclic}
use Rattle.ledger.specs.Tx.{Tx}
use Rattle.ledger.specs.Page.{page_at}
use Rattle.ledger.specs.State.{State, keys, versions}
use Rattle.ledger.specs.Gate.{pages, tx_at}
use Rattle.ledger.specs.Commit.{passed, commit_batch}
use Rattle.ledger.proofs.Gated.{Through, gate_open, gate_fault}
use Rattle.ledger.proofs.Commits.{commit_open}
use Rattle.ledger.proofs.Rising.{write-keys}
use Rattle.planning.specs.Plan.{current, before, gathered}
use Rattle.claims.specs.Serial.{Rules, Fits, run, Serial}
use Rattle.claims.specs.Third.{verdict_at, zeros, Third}
use Rattle.claims.proofs.Running.{Waiting, waiting, made-pages, commit_runs, fails_none}
use Rattle.claims.proofs.Running.{key_below, ends_last, ends-unwritten}
use Rattle.planning.proofs.OutBatch.{gathered-pages, gathered-txs, gathered_open}

-- as many zeros, as many passes
passed-zeros : (n : ℕ) → passed (replicate n 0) ≡ n
unfolding passed
passed-zeros zero = refl
passed-zeros (suc n) = ap suc (passed-zeros n)

-- no one must stand before itself
pub irreflexive : (b : ℕ → Tx) (i : ℕ) → T (not (before b i i))
unfolding before
irreflexive b i = not_T (before b i i) (λ t. T_not (eqb i i) (and_left (not (eqb i i)) _ t) (eqb_refl i))

-- ---- some pages, each once and current, and an order of them

module _ (own : List Row) (batch : List ℕ) (s : State) (n : ℕ) (c : gate_fault own batch s n ≡ clear)
    (is : List ℕ) (once : T (distinct is))
    (below : (i : ℕ) → i ∈ is → i < pages batch) (fresh : (i : ℕ) → i ∈ is → T (current (versions s) (tx_at batch) i))
    (os : List ℕ) (o : Order (before (tx_at batch)) is os) (rule : Rules) (fit : Fits (tx_at batch) s is rule) where
  abbrev b : ℕ → Tx
  b = tx_at batch

  through : Through batch s n
  through = gate_open own batch s n c

  back : {i : ℕ} → i ∈ os → i ∈ is
  back m = perm_in (Permᴰ.symm o.all_once) m

  inside : (i : ℕ) → i ∈ os → i < pages batch
  inside i m = below i (back m)

  still_once : T (distinct os)
  still_once = perm-distinct o.all_once once

  -- at the start each of the order is still to run
  ready : Waiting b s rule s os
  ready = waiting b s rule os o.forward still_once (λ i m. fit i (back m)) (λ i m. fresh i (back m))

  pub serial : Serial b n s rule os
  serial = record {
    makes_page = made-pages b n s rule 0 s os ready;
    last-writer = λ xs i ys e w m f.
        let page = through.ready.each i (inside i (rw e (Memᴰ.append_right xs (Memᴰ.head refl)))) in
        ends_last b n s rule os ready xs i ys w e through.level m
        (write-keys (page_at batch i) page.good) (key_below (keys s) (b i) page.within m) f;
    unwritten = ends-unwritten b n s rule os ready;
  }

  few : length os ≤ 64
  few =
      let fewer = no_longer os (upto (pages batch)) still_once (λ i m. upto_all (pages batch) i (inside i m)) in
      omega (arith, upto-length (pages batch), through.ready.few)

  -- the commit of these pages, one after the other
  pub commits-order :
      (ws : List ℕ) → length os ≤ length ws →
      commit_batch (gathered batch os) s n ws ≡ record {
        answer = gives (length os);
        state = run b n 0 rule s os;
        verdicts = replicate (length os) 0 ++ drop (length os) ws;
      }
  commits-order ws l =
      let w = through.ready.whole in
      rw (
        commit_open (gathered batch os) s n ws (gathered_open own batch s n c through os still_once inside ws few l),
        gathered-txs batch (pages batch) w os inside,
        fails_none b n s rule 0 s os ready,
        commit_runs b n s rule 0 s os ready,
        passed-zeros (length os),
        gathered-pages batch (pages batch) w os inside,
      )

-- ---- the pages with verdict 0

module _ (batch vs : List ℕ) where
  pub zeros-out : {i : ℕ} → i ∈ zeros batch vs → (i < pages batch) × (verdict_at vs i ≡ 0)
  unfolding zeros
  zeros-out {i} m =
      let w = those-out (λ j. eqb (verdict_at vs j) 0) (upto (pages batch)) m in
      (upto_below (pages batch) w.0, eqb→eq (verdict_at vs i) 0 w.1)

  pub zeros_in : (i : ℕ) → i < pages batch → verdict_at vs i ≡ 0 → i ∈ zeros batch vs
  unfolding zeros
  zeros_in i h e =
      those_in (λ j. eqb (verdict_at vs j) 0) (upto (pages batch)) (upto_all (pages batch) i h)
      (of_true (eqb (verdict_at vs i) 0) (eq-eqb (verdict_at vs i) 0 e))

  pub zeros-distinct : T (distinct (zeros batch vs))
  unfolding zeros
  zeros-distinct = distinct-those (λ j. eqb (verdict_at vs j) 0) (upto (pages batch)) (upto-distinct (pages batch))

-- Demand 3 holds of any verdicts and order, whoever made them, where the gate lets the batch through, the pages with
-- verdict 0 are current, the order is one of them, and each page with verdict 2 closes a cycle with them.
pub make_third :
    (asked : List Row) (batch : List ℕ) (s : State) (n : ℕ) (vs os : List ℕ) →
    gate_fault asked batch s n ≡ clear →
    ((i : ℕ) → i < pages batch → verdict_at vs i ≡ 0 → T (current (versions s) (tx_at batch) i)) →
    Order (before (tx_at batch)) (zeros batch vs) os →
    ((i : ℕ) → i < pages batch → verdict_at vs i ≡ 2 → Cycle (before (tx_at batch)) (i ∷ zeros batch vs)) →
    Third batch s n vs os
make_third asked batch s n vs os c fresh own cycle = record {
  any_order = λ rule fit ls o. serial asked batch s n c (zeros batch vs) (zeros-distinct batch vs) below now ls o rule fit;
  ours = own;
  commits = λ rule fit. commits-order asked batch s n c (zeros batch vs) (zeros-distinct batch vs) below now os own rule fit;
  closes = cycle;
  thrown_out = λ i h e ls o. order_acyclic (before (tx_at batch)) (irreflexive (tx_at batch)) o (cycle i h e);
}
  where
    below : (i : ℕ) → i ∈ zeros batch vs → i < pages batch
    below i m = (zeros-out batch vs m).0

    now : (i : ℕ) → i ∈ zeros batch vs → T (current (versions s) (tx_at batch) i)
    now i m = fresh i (below i m) (zeros-out batch vs m).1
