-- The joined call is the two calls, and demand 3 is met by it. Assumes nothing.
use Prim.Native.Nat.{ℕ, ◌*◌, ◌≤◌}
use native.Mathlib.Omega.{arith}
use mathlib.Core.List.{List, ◌++◌}
use mathlib.Core.Path.{◌≡◌, refl, sym, ap, ◌∙◌}
use lib.ListN.{length, take, drop, replicate, length-replicate}
use Rattle.lists.proofs.Membership.{perm-length}
use Rattle.refusals.specs.Outcome.{gives}
use Rattle.ledger.specs.State.{State}
use Rattle.ledger.specs.Gate.{pages, tx_at}
use Rattle.ledger.specs.Commit.{Commits, commit_batch}
use Rattle.planning.specs.Plan.{Plans, plan_batch}
use Rattle.planning.specs.Joined.{Joined, plan_and_commit}
use Rattle.planning.proofs.Joined.{same_answer, same-verdicts, same-order}
use Rattle.claims.specs.Serial.{Rules, Fits, run}
use Rattle.claims.specs.Third.{zeros}
use Rattle.claims.specs.Joined.{TwoCalls, Settled}
use Rattle.claims.proofs.Running.{on_pages}
use Rattle.claims.proofs.Demand3.{demand_3}

module _ (batch : List ℕ) (s : State) (n : ℕ) (vs os : List ℕ) where
  -- commit of the kept pages of a plan, whatever rules made the writes on them
  kept-commit :
      (out : List ℕ) (k : ℕ) → (plan_batch batch s n vs os out).answer ≡ gives k → (ws : List ℕ) → k ≤ length ws →
      (rule : Rules) → Fits (tx_at batch) s (zeros batch (plan_batch batch s n vs os out).verdicts) rule →
      commit_batch (take (512 * k) (plan_batch batch s n vs os out).out) s n ws ≡ record {
        answer = gives k;
        state = run (tx_at batch) n 0 rule s (take k (plan_batch batch s n vs os out).order);
        verdicts = replicate k 0 ++ drop k ws;
      }
  kept-commit out k e ws l rule fit =
      let c = demand_3 batch s n vs os out k e in
      let many : length (take k (plan_batch batch s n vs os out).order) ≡ k = sym (perm-length c.third.ours.all_once) ∙ sym c.count in
      ap (λ b. commit_batch b s n ws) c.out-pages
      ∙ c.third.commits rule fit ws (omega arith)
      ∙ ap (λ (m : ℕ). record {
        answer = gives m;
        state = run (tx_at batch) n 0 rule s (take k (plan_batch batch s n vs os out).order);
        verdicts = replicate m 0 ++ drop m ws;
      }) many

  -- the plan that the joined call is defined by
  abbrev p : Plans
  p = plan_batch batch s n vs os (replicate (512 * pages batch) 0)

  abbrev j : Joined
  j = plan_and_commit batch s n vs os

  -- its state, where it keeps k
  pub state_given : (k : ℕ) → p.answer ≡ gives k → j.state ≡ (commit_batch (take (512 * k) p.out) s n (replicate k 0)).state
  unfolding plan_and_commit
  state_given k e = rw e

  state-run :
      (k : ℕ) → p.answer ≡ gives k → (rule : Rules) → Fits (tx_at batch) s (zeros batch p.verdicts) rule →
      j.state ≡ run (tx_at batch) n 0 rule s (take k p.order)
  state-run k e rule fit =
      state_given k e
      ∙ ap (λ (c : Commits). c.state) (kept-commit _ k e (replicate k 0) (omega (arith, length-replicate {A = ℕ} k 0)) rule fit)

  -- "Its equality with the two calls", with every out batch that plan takes
  pub two_calls : (out : List ℕ) → 512 * pages batch ≤ length out → TwoCalls batch s n vs os out
  unfolding plan_and_commit
  two_calls out long =
      let answer = same_answer batch s n vs os out (λ _. long) in
      let order = same-order batch s n vs os out (λ _. long) in
      record {
        answer_is = answer;
        verdicts_are = same-verdicts batch s n vs os out (λ _. long);
        order_is = order;
        commits = λ k e ws l.
            let c = kept-commit out k e ws l (on_pages (tx_at batch)) (λ i m. refl) in (
              ap (λ (c : Commits). c.answer) c,
              state-run k (answer ∙ e) (on_pages (tx_at batch)) (λ i m. refl)
                  ∙ ap (λ o. run (tx_at batch) n 0 (on_pages (tx_at batch)) s (take k o)) order
                  ∙ sym (ap (λ (c : Commits). c.state) c),
            );
      }

  -- demand 3
  pub joined_3 : (k : ℕ) → j.answer ≡ gives k → Settled batch s n k j
  unfolding plan_and_commit
  joined_3 k e =
      let c = demand_3 batch s n vs os (replicate (512 * pages batch) 0) k e in
      record { third = c.third; commits = state-run k e; count = c.count }
