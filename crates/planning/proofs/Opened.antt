-- What a plan comes to where the gate finds nothing, and where it finds a fault. Assumes nothing.
use mathlib.Core.Path.{◌≡◌, sym}
use mathlib.Core.Bool.{false, ◌||◌}
use mathlib.Core.List.{List, [], ◌∷◌}
use Prim.Native.Nat.{ℕ, ◌*◌, ◌≤◌}
use native.Mathlib.Omega.{arith}
use borrow.Author.Tests.{ltb-false}
use lib.Dec.{ltb}
use lib.ListN.{length}
use Rattle.refusals.specs.Outcome.{Outcome, gives, refuses}
use Rattle.refusals.specs.Fault.{clear, fault, Row, first}
use Rattle.refusals.proofs.Rows.{judged-gives, row_none}
use Rattle.ledger.specs.State.{State, versions}
use Rattle.ledger.specs.Gate.{pages, tx_at, lent_row}
use Rattle.ledger.proofs.Faults.{or_none}
use Rattle.planning.specs.Plan.{sequence, order, plans, short_lists, short, plan_batch}
use Rattle.ledger.proofs.Gated.{gate_fault}

-- two lists of which none is shorter than m
pub none_shorter : (a b m : ℕ) → (ltb a m || ltb b m) ≡ false → (m ≤ a) × (m ≤ b)
none_shorter a b m e = let f = or_none (ltb a m) (ltb b m) e in (ltb-false a m f.0, ltb-false b m f.1)

module _ (batch : List ℕ) (s : State) (n : ℕ) (vs os out : List ℕ) where
  -- the rows of plan's own
  abbrev pub own : List Row
  own = lent_row (short batch vs os out) ∷ []

  pub plan-refused : {o : Outcome ℕ} {number place : ℕ} → o ≡ refuses number place → gate_fault own batch s n ≡ fault number place
      → record { answer = o; verdicts = vs; order = os; out = out } ≡ plan_batch batch s n vs os out
  unfolding plan_batch
  plan-refused h e = rw (h, e)

  pub plan_open : gate_fault own batch s n ≡ clear → plans batch (versions s) (sequence (versions s) (tx_at batch) (pages batch)) vs os out ≡ plan_batch batch s n vs os out
  unfolding plan_batch plans
  plan_open e = rw e

  pub plan-clear : {k : ℕ} → (plan_batch batch s n vs os out).answer ≡ gives k
      → (gate_fault own batch s n ≡ clear) × (k ≡ length (order (tx_at batch) (sequence (versions s) (tx_at batch) (pages batch))))
  unfolding plan_batch
  plan-clear e = judged-gives _ _ _ (sym e)

  -- what 14 asks
  pub not_short : first own ≡ clear → (pages batch ≤ length vs) × (pages batch ≤ length os) × (pages batch * 512 ≤ length out)
  not_short e =
      let a = or_none (short_lists (pages batch) vs os) _ (row_none (lent_row (short batch vs os out)) [] e).0 in
      let l = none_shorter (length vs) (length os) (pages batch) a.0 in
      let z = ltb-false (length out) (512 * pages batch) a.1 in
      (l.0, l.1, omega arith)
