-- Who is thrown out, and who never is: a cycle is closed with kept ones of lower tickets alone, and who reads nothing
-- is kept. Assumes nothing.
use Prim.Native.Nat.{ℕ, zero, suc, ◌≤◌, ◌<◌}
use native.Mathlib.Omega.{arith}
use mathlib.Core.Bool.{Bool, true, not, true≢false}
use mathlib.Core.List.Memᴰ
use mathlib.Core.List.{List, [], ◌∷◌, ◌++◌}
use mathlib.Core.List.Permᴰ
use mathlib.Core.Logic.{⊎_elim}
use mathlib.Core.Path.{◌≡◌, refl, sym, ap, subst, ◌∙◌}
use lib.ListN.{take}
use lib.Dec.{T, T_not, not_T, eqb, leb, ltb, ltb→lt, leb→le}
use borrow.Author.Tests.{le-leb, ltb-false}
use Rattle.lists.specs.Members.{◌∈◌, any, all, those}
use Rattle.lists.specs.Tables.{upto}
use Rattle.lists.proofs.Tests.{by_test, and_left, and_right, of_true, is_false, decide}
use Rattle.lists.proofs.Membership.{those_in, those-out, all-out, perm_in, one_of, upto_all}
use Rattle.refusals.specs.Outcome.{gives}
use Rattle.refusals.specs.Fault.{clear, first}
use Rattle.orders.specs.Chain.{cyclic, Cycle, ordered}
use Rattle.orders.specs.Admission.{admit}
use Rattle.orders.proofs.Admitted.{admit_keeps}
use Rattle.orders.proofs.Arranged.{by_ticket_rises}
use Rattle.orders.proofs.Chains.{cyclic_cycle, cycle_mono, ordered-append}
use Rattle.ledger.specs.Tx.{Tx, keys_read}
use Rattle.ledger.specs.declared.Version.{Version}
use Rattle.ledger.specs.State.{State, versions}
use Rattle.ledger.specs.Gate.{pages, tx_at}
use Rattle.ledger.specs.Commit.{passes}
use Rattle.ledger.proofs.Gated.{gate_open}
use Rattle.planning.specs.Plan.{current, before, sequence, kept, verdict, Plans, plans, plan_rows, plan_batch}
use Rattle.planning.proofs.Opened.{own, plan_open, plan-clear}
use Rattle.claims.specs.Third.{verdict_at, zeros}
use Rattle.planning.proofs.Words.{reads-key, before-words}
use Rattle.planning.proofs.Kept.{sequence-perm, kept_below}
use Rattle.claims.proofs.Demand3.{verdict-at, zeros-kept, demand_3}

-- ---- admission in rising ticket order

module _ (rel : ℕ → ℕ → Bool) (ticket : ℕ → ℕ) (x : ℕ) where
  abbrev lower : ℕ → Bool
  lower y = leb (ticket y) (ticket x)

  -- who is not kept closes a cycle with those that were kept before it
  rejects_lower :
      (had is : List ℕ) → x ∈ is → T (ordered (λ j i. ltb (ticket j) (ticket i)) is) →
      ((y : ℕ) → y ∈ had → ticket y ≤ ticket x) →
      (x ∈ admit rel had is → ⊥) → Cycle rel (x ∷ those lower (admit rel had is))
  unfolding admit ordered
  rejects_lower had [] x4 o f = elim x4 [ ]
  rejects_lower had (i ∷ is) (Memᴰ.head e) o f =
      by_test
      (λ l. (x ∈ l → ⊥) → Cycle rel (x ∷ those lower l))
      (cyclic rel (i ∷ had))
      (λ c g. cycle_mono rel {ks = i ∷ had}
      (λ y m. ⊎_elim (λ q. Memᴰ.head (q ∙ sym e))
      (λ n. Memᴰ.tail (those_in lower (admit rel had is) (admit_keeps rel had is n)
      (of_true (lower y) (le-leb (ticket y) (ticket x) (f y n)))))
      (Memᴰ.cases_cons m))
      ((cyclic_cycle rel (i ∷ had)).0 c))
      (λ c g. absurd (g (admit_keeps rel (i ∷ had) is (Memᴰ.head e))))
  rejects_lower had (i ∷ is) (Memᴰ.tail m) o f =
      let none = all (λ a. not (ltb (ticket a) (ticket i))) is in
      let rest = ordered (λ j i. ltb (ticket j) (ticket i)) is in
      let later = and_right none rest o in
      let after = all-out (λ a. not (ltb (ticket a) (ticket i))) is (and_left none rest o) m in
      let rises : ticket i ≤ ticket x = ltb-false (ticket x) (ticket i) (is_false (ltb (ticket x) (ticket i)) after) in
      by_test
      (λ l. (x ∈ l → ⊥) → Cycle rel (x ∷ those lower l))
      (cyclic rel (i ∷ had))
      (λ c. rejects_lower had is m later f)
      (λ c. rejects_lower (i ∷ had) is m later
      (λ y n. ⊎_elim (λ q. subst (λ (z : ℕ). ticket z ≤ ticket x) (sym q) rises) (f y) (Memᴰ.cases_cons n)))

-- who gets verdict 2 is current and not kept
thrown : (held : ℕ → Version) (b : ℕ → Tx) (seq : List ℕ) (i : ℕ) → verdict held b seq i ≡ 2 → T (current held b i) × (i ∈ kept b seq → ⊥)
unfolding verdict
thrown held b seq i =
    by_test
    (λ v. v ≡ 2 → T (current held b i) × (i ∈ kept b seq → ⊥))
    (current held b i)
    (λ p. by_test
    (λ v. v ≡ 2 → T (current held b i) × (i ∈ kept b seq → ⊥))
    (any (eqb i) (kept b seq))
    (λ u e. absurd (omega arith))
    (λ u e. (p, λ k. T_not (any (eqb i) (kept b seq)) u ((one_of i (kept b seq)).1 k))))
    (λ p e. absurd (omega arith))

-- ---- a batch that plan does not refuse

module _ (batch : List ℕ) (s : State) (n : ℕ) (vs os out : List ℕ) (c : first (plan_rows batch s n vs os out) ≡ clear) where
  abbrev b : ℕ → Tx
  b = tx_at batch

  abbrev seq : List ℕ
  seq = sequence (versions s) b (pages batch)

  abbrev made : Plans
  made = plans batch (versions s) seq vs os out

  -- a ticket names one page
  one-page : (i j : ℕ) → i < pages batch → j < pages batch → (b i).ticket ≡ (b j).ticket → i ≡ j
  one-page i j h l e =
      ⊎_elim
      (λ t. absurd (differ j i (ltb→lt i j t) l e))
      (λ t. ⊎_elim
      (λ u. absurd (differ i j (ltb→lt j i u) h (sym e)))
      (λ u. omega (arith, ltb-false i j (is_false (ltb i j) t), ltb-false j i (is_false (ltb j i) u)))
      (decide (ltb j i)))
      (decide (ltb i j))
    where
      differ : (i j : ℕ) → j < i → i < pages batch → (b j).ticket ≡ (b i).ticket → ⊥
      differ = (gate_open (own batch s n vs os out) batch s n c).differ

  abbrev lower_of : ℕ → ℕ → Bool
  lower_of i j = ltb (b j).ticket (b i).ticket

  lower_made :
      (i : ℕ) → i < pages batch → verdict_at made.verdicts i ≡ 2 →
      Cycle (before b) (i ∷ those (lower_of i) (zeros batch made.verdicts))
  unfolding kept sequence
  lower_made i h e =
      let q = sequence-perm (versions s) b (pages batch) in
      let w = thrown (versions s) b seq i (sym (verdict-at batch s n seq vs os out q c i h) ∙ e) in
      let m = perm_in q (those_in (current (versions s) b) (upto (pages batch)) (upto_all (pages batch) i h) w.0) in
      let rises = by_ticket_rises (λ i. (b i).ticket) (those (current (versions s) b) (upto (pages batch))) in
      let cycle =
      rejects_lower (before b) (λ i. (b i).ticket) i [] seq m rises (λ y k. absurd (Memᴰ.not-nil k)) w.1 in
      cycle_mono (before b) {ks = i ∷ those (λ y. leb (b y).ticket (b i).ticket) (admit (before b) [] seq)}
      (λ y k. ⊎_elim Memᴰ.head (λ l. Memᴰ.tail (strict w.1 y l)) (Memᴰ.cases_cons k))
      cycle
    where
      -- one that was kept with a ticket not above has one below
      strict :
          (i ∈ kept b seq → ⊥) → (y : ℕ) → y ∈ those (λ y. leb (b y).ticket (b i).ticket) (kept b seq) →
          y ∈ those (lower_of i) (zeros batch made.verdicts)
      strict off y l =
          let q = sequence-perm (versions s) b (pages batch) in
          let o = those-out (λ y. leb (b y).ticket (b i).ticket) (kept b seq) l in
          those_in (lower_of i) (zeros batch made.verdicts)
          (perm_in (Permᴰ.symm (zeros-kept batch s n seq vs os out q c)) o.0)
          (⊎_elim (λ t. t)
          (λ t.
          let above = ltb-false (b y).ticket (b i).ticket (is_false (lower_of i y) t) in
          let equal : (b y).ticket ≡ (b i).ticket = omega (arith, leb→le (b y).ticket (b i).ticket o.1) in
          let same = one-page y i (kept_below (versions s) b (pages batch) seq q o.0) h equal in
          absurd (off (subst (λ (z : ℕ). z ∈ kept b seq) same o.0)))
          (decide (lower_of i y)))

-- "In rising ticket order": each page that is thrown out closes a cycle with kept pages of lower tickets alone, so none is
-- thrown out because of a higher ticket
pub lower_only :
    (batch : List ℕ) (s : State) (n : ℕ) (vs os out : List ℕ) (k : ℕ) → (plan_batch batch s n vs os out).answer ≡ gives k →
    (i : ℕ) → i < pages batch → verdict_at (plan_batch batch s n vs os out).verdicts i ≡ 2 →
    Cycle (before (tx_at batch))
    (i ∷ those (λ j. ltb (tx_at batch j).ticket (tx_at batch i).ticket)
    (zeros batch (plan_batch batch s n vs os out).verdicts))
lower_only batch s n vs os out k a =
    let c = (plan-clear batch s n vs os out a).0 in
    rw (← plan_open batch s n vs os out c) (lower_made batch s n vs os out c)

-- ---- who reads nothing

passes_unread : (held : ℕ → Version) (x : Tx) → x.reads ≡ [] → passes held x ≡ true
unfolding passes
passes_unread held x e = rw e

no_key : (x : Tx) → x.reads ≡ [] → (k : ℕ) → k ∈ keys_read x → ⊥
unfolding keys_read
no_key x e k m = Memᴰ.not-nil (rw e at m)

neither : (v : ℕ) → v ≤ 2 → (v ≡ 1 → ⊥) → (v ≡ 2 → ⊥) → v ≡ 0
neither zero h f g = refl
neither (suc zero) h f g = absurd (f refl)
neither (suc (suc zero)) h f g = absurd (g refl)
neither (suc (suc (suc v))) h f g = absurd (omega arith)

-- a page that reads nothing is kept, whatever the other pages of the batch are
pub unread_kept :
    (batch : List ℕ) (s : State) (n : ℕ) (vs os out : List ℕ) (k : ℕ) → (plan_batch batch s n vs os out).answer ≡ gives k →
    (i : ℕ) → i < pages batch → (tx_at batch i).reads ≡ [] → verdict_at (plan_batch batch s n vs os out).verdicts i ≡ 0
unfolding ordered
unread_kept batch s n vs os out k a i h e =
    let c = demand_3 batch s n vs os out k a in
    let own = c.third.ours in
    let front = take k (plan_batch batch s n vs os out).order in
    neither (verdict_at (plan_batch batch s n vs os out).verdicts i) (c.each-verdict i h)
    (λ v. true≢false (sym (passes_unread (versions s) (tx_at batch i) e) ∙ (c.stale i h).0 v))
    (λ v. c.third.thrown_out i h v (front ++ (i ∷ []))
    (record {
      all_once =
          Permᴰ.trans (Permᴰ.cons refl own.all_once)
          (Permᴰ.trans (Permᴰ.cons refl (Permᴰ.symm (Permᴰ.append-nil front)))
          (Permᴰ.symm (Permᴰ.middle i front [])));
      forward = ordered-append (before (tx_at batch)) front (i ∷ []) own.forward tt
          (λ x y m z. last x y (Memᴰ.eq_of_singleton z));
    }))
  where
    last : (x y : ℕ) → y ≡ i → T (not (before (tx_at batch) y x))
    last x y q =
        not_T (before (tx_at batch) y x)
        (λ t.
        let w = (before-words (tx_at batch) y x).0 t in
        no_key (tx_at batch y) (ap (λ (z : ℕ). (tx_at batch z).reads) q ∙ e) w.1.0
        ((reads-key (tx_at batch y) w.1.0).0 w.1.2))
