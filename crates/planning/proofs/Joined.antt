-- The joined call: what it comes to where the gate finds a fault, and where it finds none. Assumes nothing.
use mathlib.Core.Path.{◌≡◌, refl, sym, ap, ◌∙◌}
use mathlib.Core.Bool.{◌||◌}
use mathlib.Core.List.{List, [], ◌∷◌, ◌++◌, map}
use Prim.Native.Nat.{ℕ, ◌*◌, ◌≤◌, ◌<◌}
use native.Mathlib.Omega.{arith}
use borrow.Author.Tests.{le-ltb}
use lib.ListN.{length, take, drop, replicate, length-replicate}
use Rattle.lists.specs.Members.{◌∈◌}
use Rattle.lists.specs.Tables.{filled, tab}
use Rattle.lists.proofs.Tests.{or-false}
use Rattle.refusals.specs.Outcome.{Outcome, gives, refuses}
use Rattle.refusals.specs.Fault.{Fault, clear, fault, Row, first, judged, after}
use Rattle.refusals.proofs.Rows.{row_none}
use Rattle.ledger.specs.State.{State, versions}
use Rattle.ledger.specs.Gate.{pages, tx_at, lent_row, front_rows}
use Rattle.ledger.specs.Commit.{Commits, commit, commit_batch}
use Rattle.ledger.specs.Inner.{applied}
use Rattle.ledger.proofs.Commits.{commit_open}
use Rattle.ledger.proofs.Gated.{Through, gate_fault, gate_front, gate_open}
use Rattle.planning.specs.Plan.{sequence, verdict, order, gathered, Plans, plans, short_lists, plan_batch}
use Rattle.planning.specs.Joined.{Joined, settled, plan_and_commit}
use Rattle.planning.proofs.Few.{order-short}
use Rattle.planning.proofs.Kept.{sequence-perm, own_order, order_below, order-current, order-distinct}
use Rattle.planning.proofs.Opened.{none_shorter, plan-refused, plan_open}
use Rattle.planning.proofs.Opened.{own as asked}
use Rattle.planning.proofs.Passing.{passing, commit-applied}
use Rattle.planning.proofs.OutBatch.{out_front, gathered-txs, gathered_open}

module _ (batch : List ℕ) (s : State) (n : ℕ) (vs os : List ℕ) where
  -- an out batch that is long enough
  abbrev room : List ℕ
  room = replicate (512 * pages batch) 0

  -- the order of the kept
  abbrev o : List ℕ
  o = order (tx_at batch) (sequence (versions s) (tx_at batch) (pages batch))

  -- the rows of the joined call's own: "without the out batch in 14"
  abbrev pub own : List Row
  own = lent_row (short_lists (pages batch) vs os) ∷ []

  -- plan asks the same, with any out batch that is long enough once the front is clear
  pub as_plan : (out : List ℕ) → (first (front_rows batch s n) ≡ clear → 512 * pages batch ≤ length out)
      → gate_fault own batch s n ≡ gate_fault (asked batch s n vs os out) batch s n
  as_plan out long = go (first (front_rows batch s n)) refl
    where
      go : (f : Fault) → first (front_rows batch s n) ≡ f → gate_fault own batch s n ≡ gate_fault (asked batch s n vs os out) batch s n
      go clear e = ap (λ b. gate_fault (lent_row b ∷ []) batch s n) (sym (ap (λ b. short_lists (pages batch) vs os || b) (le-ltb (length out) (512 * pages batch) (long e)) ∙ or-false _))
      go (fault a b) e = gate_front own batch s n e ∙ sym (gate_front (asked batch s n vs os out) batch s n e)

  as_room : gate_fault own batch s n ≡ gate_fault (asked batch s n vs os room) batch s n
  as_room = as_plan room (λ e. omega (arith, length-replicate {A = ℕ} (512 * pages batch) 0))

  -- so the table is the joined call's own
  pub joined-answer : (plan_and_commit batch s n vs os).answer ≡ judged (gate_fault own batch s n) (length o)
  unfolding plan_and_commit plan_batch
  joined-answer = ap (λ f. judged f (length o)) (sym as_room)

  -- and whatever out batch plan has, it leaves the same
  module _ (out : List ℕ) (long : first (front_rows batch s n) ≡ clear → 512 * pages batch ≤ length out) where
    one_gate : gate_fault (asked batch s n vs os room) batch s n ≡ gate_fault (asked batch s n vs os out) batch s n
    one_gate = sym as_room ∙ as_plan out long

    pub same_answer : (plan_and_commit batch s n vs os).answer ≡ (plan_batch batch s n vs os out).answer
    unfolding plan_and_commit plan_batch
    same_answer = ap (λ f. judged f (length o)) one_gate

    pub same-verdicts : (plan_and_commit batch s n vs os).verdicts ≡ (plan_batch batch s n vs os out).verdicts
    unfolding plan_and_commit plan_batch plans
    same-verdicts = ap (λ f. after f (plans batch (versions s) (sequence (versions s) (tx_at batch) (pages batch)) vs os room).verdicts vs) one_gate

    pub same-order : (plan_and_commit batch s n vs os).order ≡ (plan_batch batch s n vs os out).order
    unfolding plan_and_commit plan_batch plans
    same-order = ap (λ f. after f (filled o os) os) one_gate

  -- what 14 asks
  pub lists_long : first own ≡ clear → (pages batch ≤ length vs) × (pages batch ≤ length os)
  lists_long e = none_shorter (length vs) (length os) (pages batch) (row_none _ [] e).0

  -- the service after a plan
  abbrev then : Plans → Joined
  then p = record { answer = p.answer; state = settled s n p; verdicts = p.verdicts; order = p.order }

  pub joined-refused : {a : Outcome ℕ} {number place : ℕ} → a ≡ refuses number place → gate_fault own batch s n ≡ fault number place
      → record { answer = a; state = s; verdicts = vs; order = os } ≡ plan_and_commit batch s n vs os
  unfolding plan_and_commit
  joined-refused h e = rw h (ap then (plan-refused batch s n vs os room refl (sym as_room ∙ e)))

  module _ (e : gate_fault own batch s n ≡ clear) where
    through : Through batch s n
    through = gate_open own batch s n e

    inside : (i : ℕ) → i ∈ o → i < pages batch
    inside i m = order_below (versions s) (tx_at batch) (pages batch) _ (sequence-perm (versions s) (tx_at batch) (pages batch)) m

    -- the kept pages of any out batch, committed
    pub commits-kept : (out ws : List ℕ) → length o ≤ length ws
        → (commit_batch (take (512 * length o) (gathered batch o ++ drop (512 * length o) out)) s n ws).state ≡ commit n 0 s (map (tx_at batch) o)
    commits-kept out ws long =
        let whole = through.ready.whole in
        let few = order-short (versions s) (tx_at batch) (pages batch) in
        ap (λ b. (commit_batch b s n ws).state) (out_front batch (pages batch) whole o inside out)
        ∙ ap (λ (c : Commits). c.state)
        (commit_open (gathered batch o) s n ws
        (gathered_open own batch s n e through o (order-distinct (versions s) (tx_at batch) (pages batch) _ (sequence-perm (versions s) (tx_at batch) (pages batch))) inside ws (omega (arith, few, through.ready.few)) long))
        ∙ ap (commit n 0 s) (gathered-txs batch (pages batch) whole o inside)

    -- each of them passes in its turn, so it need not be asked
    kept-applied : commit n 0 s (map (tx_at batch) o) ≡ applied n 0 s (map (tx_at batch) o)
    kept-applied =
        let q = sequence-perm (versions s) (tx_at batch) (pages batch) in
        commit-applied (tx_at batch) n s 0 s o
        (passing (tx_at batch) s o
        (own_order (versions s) (tx_at batch) (pages batch) _ q).forward
        (order-distinct (versions s) (tx_at batch) (pages batch) _ q)
        (λ i m. order-current (versions s) (tx_at batch) (pages batch) _ q m))

    pub joined-taken : {k : ℕ} {vs' os' : List ℕ} {left : State} → k ≡ length o
        → vs' ≡ tab (pages batch) (verdict (versions s) (tx_at batch) (sequence (versions s) (tx_at batch) (pages batch))) ++ drop (pages batch) vs
        → os' ≡ filled o os → left ≡ applied n 0 s (map (tx_at batch) o)
        → record { answer = gives k; state = left; verdicts = vs'; order = os' } ≡ plan_and_commit batch s n vs os
    unfolding plan_and_commit plans
    joined-taken a b c d =
        rw (a, b, c, d ∙ sym kept-applied ∙ sym (commits-kept room (replicate (length o) 0) (omega (arith, length-replicate {A = ℕ} (length o) 0))))
        (ap then (plan_open batch s n vs os room (sym as_room ∙ e)))
