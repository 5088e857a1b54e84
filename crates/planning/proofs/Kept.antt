-- What is kept, over any sequence of admission: current pages of the batch, each once, with no cycle; who is thrown out closes one. Assumes nothing.
use Prim.Native.Nat.{ℕ, ◌≤◌, ◌<◌}
use native.Mathlib.Omega.{arith}
use mathlib.Core.Bool.{false}
use mathlib.Core.List.Memᴰ
use mathlib.Core.List.Permᴰ
use mathlib.Core.List.{List, [], ◌∷◌, Permᴰ}
use mathlib.Core.Logic.{⊎_elim, ◌↔◌}
use mathlib.Core.Path.{◌≡◌, refl}
use lib.Dec.{T, T_not, eqb}
use Rattle.lists.specs.Members.{◌∈◌, any, those, distinct}
use Rattle.lists.specs.Tables.{upto}
use Rattle.lists.proofs.Tests.{is_false, by_test}
use Rattle.lists.proofs.Membership.{those_in, those-out, perm_in, one_of, perm-distinct, distinct-those}
use Rattle.lists.proofs.Membership.{upto_below, upto_all, upto-distinct}
use Rattle.orders.specs.Chain.{Cycle}
use Rattle.orders.specs.Arrange.{Order}
use Rattle.orders.proofs.Admitted.{admit_acyclic, admit-distinct, admit_rejects, admit_from}
use Rattle.orders.proofs.Arranged.{schedule-order, by_ticket-perm}
use Rattle.ledger.specs.Tx.{Tx}
use Rattle.ledger.specs.declared.Version.{Version}
use Rattle.ledger.specs.Commit.{passes}
use Rattle.planning.specs.Plan.{current, before, sequence, kept, verdict, order}

-- the pages of m that are current
module _ (held : ℕ → Version) (b : ℕ → Tx) (m : ℕ) where
  abbrev candidates : List ℕ
  candidates = those (current held b) (upto m)

  candidates_distinct : T (distinct candidates)
  candidates_distinct = distinct-those (current held b) (upto m) (upto-distinct m)

  -- "In rising ticket order" is one sequence of them
  pub sequence-perm : Permᴰ candidates (sequence held b m)
  unfolding sequence
  sequence-perm = by_ticket-perm (λ i. (b i).ticket) candidates candidates_distinct

module _ (held : ℕ → Version) (b : ℕ → Tx) (m : ℕ) (seq : List ℕ) (q : Permᴰ (those (current held b) (upto m)) seq) where
  pub kept-distinct : T (distinct (kept b seq))
  unfolding kept distinct
  kept-distinct = admit-distinct (before b) [] seq tt (perm-distinct q (candidates_distinct held b m)) (λ x y i n. absurd (Memᴰ.not-nil n))

  kept_acyclic : Cycle (before b) (kept b seq) → ⊥
  unfolding kept
  kept_acyclic = admit_acyclic (before b) [] seq (λ c. Memᴰ.not-nil c.member)

  -- "Our own order is such an order"
  pub own_order : Order (before b) (kept b seq) (order b seq)
  unfolding order
  own_order = schedule-order (before b) (λ i. (b i).ticket) (kept b seq) kept-distinct kept_acyclic

  kept_from : {i : ℕ} → i ∈ kept b seq → (i ∈ upto m) × T (current held b i)
  unfolding kept
  kept_from k =
      ⊎_elim
      (λ n. absurd (Memᴰ.not-nil n))
      (λ n. those-out (current held b) (upto m) (perm_in (Permᴰ.symm q) n))
      (admit_from (before b) [] seq k)

  pub kept-current : {i : ℕ} → i ∈ kept b seq → T (passes held (b i))
  kept-current k = (kept_from k).1

  pub kept_below : {i : ℕ} → i ∈ kept b seq → i < m
  kept_below k = upto_below m (kept_from k).0

  -- each page of the order is one of the batch, current, and stands there once
  pub order_below : {i : ℕ} → i ∈ order b seq → i < m
  order_below k = kept_below (perm_in (Permᴰ.symm own_order.all_once) k)

  pub order-current : {i : ℕ} → i ∈ order b seq → T (passes held (b i))
  order-current k = kept-current (perm_in (Permᴰ.symm own_order.all_once) k)

  pub order-distinct : T (distinct (order b seq))
  order-distinct = perm-distinct own_order.all_once kept-distinct

  -- verdict 0 is for the kept
  pub verdict-kept : (i : ℕ) → (verdict held b seq i ≡ 0) ↔ (i ∈ kept b seq)
  unfolding verdict
  verdict-kept i = (there, back)
    where
      there : verdict held b seq i ≡ 0 → i ∈ kept b seq
      there =
          by_test
          (λ v. v ≡ 0 → i ∈ kept b seq)
          (current held b i)
          (λ p. by_test
          (λ v. v ≡ 0 → i ∈ kept b seq)
          (any (eqb i) (kept b seq))
          (λ u e. (one_of i (kept b seq)).0 u)
          (λ u e. absurd (omega arith)))
          (λ p e. absurd (omega arith))

      back : i ∈ kept b seq → verdict held b seq i ≡ 0
      back k =
          by_test
          (λ v. v ≡ 0)
          (current held b i)
          (λ p. by_test (λ v. v ≡ 0) (any (eqb i) (kept b seq)) (λ u. refl)
          (λ u. absurd (T_not (any (eqb i) (kept b seq)) u ((one_of i (kept b seq)).1 k))))
          (λ p. absurd (T_not (current held b i) p (kept-current k)))

  -- who is thrown out closes a cycle with the kept
  pub closes_cycle : (i : ℕ) → i < m → verdict held b seq i ≡ 2 → Cycle (before b) (i ∷ kept b seq)
  unfolding verdict kept
  closes_cycle i h =
      by_test
      (λ v. v ≡ 2 → Cycle (before b) (i ∷ kept b seq))
      (current held b i)
      (λ p. by_test
      (λ v. v ≡ 2 → Cycle (before b) (i ∷ kept b seq))
      (any (eqb i) (kept b seq))
      (λ u e. absurd (omega arith))
      (λ u e. admit_rejects (before b) [] seq
      (perm_in q (those_in (current held b) (upto m) (upto_all m i h) p))
      (λ k. T_not (any (eqb i) (kept b seq)) u ((one_of i (kept b seq)).1 k))))
      (λ p e. absurd (omega arith))

-- ---- verdicts, whatever the sequence is

module _ (held : ℕ → Version) (b : ℕ → Tx) (seq : List ℕ) where
  pub verdict-small : (i : ℕ) → verdict held b seq i ≤ 2
  unfolding verdict
  verdict-small i =
      by_test
      (λ v. v ≤ 2)
      (current held b i)
      (λ p. by_test (λ v. v ≤ 2) (any (eqb i) (kept b seq)) (λ u. omega arith) (λ u. omega arith))
      (λ p. omega arith)

  -- verdict 1 is for those that are not current
  pub verdict-stale : (i : ℕ) → (verdict held b seq i ≡ 1) ↔ (current held b i ≡ false)
  unfolding verdict
  verdict-stale i = (there, λ e. rw e)
    where
      there : verdict held b seq i ≡ 1 → current held b i ≡ false
      there =
          by_test
          (λ v. v ≡ 1 → current held b i ≡ false)
          (current held b i)
          (λ p. by_test
          (λ v. v ≡ 1 → current held b i ≡ false)
          (any (eqb i) (kept b seq))
          (λ u e. absurd (omega arith))
          (λ u e. absurd (omega arith)))
          (λ p e. is_false (current held b i) p)
