-- Plan keeps no more pages than the batch has, and so the out batch has room for them. Assumes nothing.
use Prim.Native.Nat.{ℕ, zero, suc, ◌*◌, ◌≤◌}
use mathlib.Core.Path.{◌≡◌}
use mathlib.Core.Bool.{Bool, true}
use mathlib.Core.List.{List, [], ◌∷◌}
use native.Mathlib.Omega.{arith}
use lib.ListN.{length}
use Rattle.lists.specs.Members.{those}
use Rattle.lists.specs.Tables.{upto}
use Rattle.lists.proofs.Membership.{those_shorter, upto-length}
use Rattle.refusals.specs.Outcome.{gives}
use Rattle.ledger.specs.Tx.{Tx}
use Rattle.ledger.specs.declared.Version.{Version}
use Rattle.ledger.specs.State.{State, versions}
use Rattle.ledger.specs.Gate.{pages, tx_at}
use Rattle.ledger.proofs.Gated.{gate_open, open_own}
use Rattle.planning.specs.Plan.{current, before, sequence, kept, order, plan_batch}
use Rattle.planning.proofs.Opened.{own, plan-clear, not_short}
use Rattle.orders.specs.Arrange.{lowest, without, arrange, by_ticket, free, schedule}
use Rattle.orders.proofs.Admitted.{admit_shorter}

arrange-short : (ticket : ℕ → ℕ) (ok : List ℕ → ℕ → Bool) (n : ℕ) (is : List ℕ) → length (arrange ticket ok n is) ≤ n
unfolding arrange
arrange-short ticket ok zero is = omega arith
arrange-short ticket ok (suc n) is = go (those (ok is) is) (λ js. arrange-short ticket ok n js)
  where
    go : (fs : List ℕ) → ((js : List ℕ) → length (arrange ticket ok n js) ≤ n)
        → length {A = ℕ} (elim fs [ [] ↦ [] | f ∷ gs ↦ lowest ticket f gs ∷ arrange ticket ok n (without (lowest ticket f gs) is) ]) ≤ suc n
    go [] h = omega arith
    go (f ∷ fs) h = omega (arith, h (without (lowest ticket f fs) is))

pub order-short : (held : ℕ → Version) (b : ℕ → Tx) (m : ℕ) → length (order b (sequence held b m)) ≤ m
unfolding order kept sequence by_ticket schedule
order-short held b m =
    let seq = sequence held b m in
    let cur = those (current held b) (upto m) in
    omega (
      arith,
      arrange-short (λ i. (b i).ticket) (free (before b)) (length (kept b seq)) (kept b seq),
      admit_shorter (before b) [] seq,
      arrange-short (λ i. (b i).ticket) (λ u i. true) (length cur) cur,
      those_shorter (current held b) (upto m),
      upto-length m,
    )

-- what plan keeps has room in the out batch
pub plan-room : (batch : List ℕ) (s : State) (n : ℕ) (vs os out : List ℕ) (k : ℕ)
    → (plan_batch batch s n vs os out).answer ≡ gives k → (k ≤ 64) × (512 * k ≤ length out)
plan-room batch s n vs os out k e =
    let c = plan-clear batch s n vs os out e in
    let t = gate_open (own batch s n vs os out) batch s n c.0 in
    let l = order-short (versions s) (tx_at batch) (pages batch) in
    let r = (not_short batch s n vs os out (open_own (own batch s n vs os out) batch s n c.0)).2 in
    (omega (arith, t.ready.few, c.1), omega (arith, c.1))
