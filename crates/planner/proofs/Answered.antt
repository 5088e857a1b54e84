-- What planning answers: the steps of a plan in document 01's words. Assumes nothing.
use mathlib.Core.Path.{◌≡◌, sym, ap, ap₂, ◌∙◌}
use mathlib.Core.Bool.{Bool, ◌&&◌, cond}
use mathlib.Core.List.{List, [], ◌++◌, map}
use Prim.Native.Nat.{ℕ, ◌*◌, ◌^◌, ◌≤◌, ◌<◌}
use native.Mathlib.Omega.{arith}
use borrow.Author.Tests.{lt-ltb}
use lib.Dec.{T, eqb, ltb}
use lib.ListN.{length, get_or, take, drop, get_or-append}
use lib.Seq.{take_at, get_or-take, length-take-le}
use Rattle.lists.specs.Members.{any, those, distinct}
use Rattle.lists.specs.Tables.{upto, tab}
use Rattle.lists.proofs.Membership.{get_or_in, those-same, distinct-those, perm-distinct, upto_below, upto-distinct}
use Rattle.orders.specs.Walk.{Lists}
use Rattle.orders.specs.Admission.{admit}
use Rattle.orders.specs.Arrange.{by_ticket, schedule}
use Rattle.orders.proofs.Arranged.{by_ticket-perm}
use Rattle.sets.specs.Set.{member, members}
use Rattle.ledger.specs.declared.Version.{Version}
use Rattle.ledger.specs.Gate.{pages, tx_at}
use Rattle.ledger.specs.Inner.{Batch, txs_in}
use Rattle.lists.proofs.Tables.{tab-same}
use Rattle.std.specs.Prelude.{Ok}
use Rattle.planner.specs.Ranks.{demands, nth, Sound, Ranked, Planned}
use Rattle.planning.specs.Plan.{current, before, sequence, kept, verdict, order, gathered, plans, planned}
use Rattle.planning.proofs.Few.{order-short}
use Rattle.planning.proofs.Kept.{sequence-perm, order_below}
use Rattle.planning.proofs.OutBatch.{tab-map}
use Rattle.planner.proofs.Steps.{Lined, lined_different, order_is, filled_many, filled_front, scheduled}

-- ---- what the steps ask of one another

pub batch_sound : (k : ℕ) (batch : List ℕ) (m : ℕ) → Batch k batch m → Sound batch m
batch_sound k batch m b = record { few = b.few; whole = omega (arith, b.whole); good = λ i h. (b.each i h).good }

pub lined_ranked : (t : ℕ → ℕ) (K : ℕ → Bool) (batch : List ℕ) (m : ℕ) (ps : List ℕ) (c : ℕ) → Lined t K m ps c → Sound batch m → Ranked batch ps c
lined_ranked t K batch m ps c l s = record {
  few = omega (arith, l.few, s.few);
  different = lined_different t K m ps c l;
  inside = λ r h. omega (arith, l.low r h, s.whole);
  good = λ r h. s.good (nth ps r) (l.low r h);
}

-- ---- the front of a list of pages

module _ (batch ps : List ℕ) (c : ℕ) (h : c ≤ length ps) where
  front_nth : (r : ℕ) → r < c → nth (take c ps) r ≡ nth ps r
  front_nth r l = get_or-take c ps r 0 l

  inner : (r : ℕ) → r < length (take c ps) → r < c
  inner r l = omega (arith, length-take-le c ps h)

  pub front_ranked : Ranked batch ps c → Ranked batch (take c ps) (length (take c ps))
  front_ranked w = record {
    few = omega (arith, w.few, length-take-le c ps h);
    different = λ r s i j e. w.different r s (inner r i) (inner s j) (sym (front_nth r (inner r i)) ∙ e ∙ front_nth s (inner s j));
    inside = λ r l. rw (front_nth r (inner r l)) (w.inside r (inner r l));
    good = λ r l. rw (front_nth r (inner r l)) (w.good r (inner r l));
  }

  -- what is known of the ranks of the front
  pub front_ranks :
      (E : ℕ → ℕ → Bool) →
      ((r s : ℕ) → r < length (take c ps) → s < length (take c ps) → E r s ≡ before (tx_at batch) (nth (take c ps) r) (nth (take c ps) s)) →
      (r s : ℕ) → r < c → s < c → E r s ≡ before (tx_at batch) (nth ps r) (nth ps s)
  front_ranks E agree r s i j =
      agree r s (omega (arith, length-take-le c ps h)) (omega (arith, length-take-le c ps h))
      ∙ ap₂ (before (tx_at batch)) (front_nth r i) (front_nth s j)

-- ---- the front of an order

module _ (batch os : List ℕ) (k : ℕ) (h : k ≤ length os) where
  pub front_txs : txs_in batch (take k os) (length (take k os)) ≡ txs_in batch os k
  unfolding txs_in
  front_txs =
      ap (λ m. tab m (λ j. tx_at batch (get_or (take k os) j 0))) (length-take-le k os h)
      ∙ tab-same _ (λ j. tx_at batch (get_or os j 0)) k (λ j l. ap (tx_at batch) (get_or-take k os j 0 l))

  pub front_below : (m : ℕ) → ((j : ℕ) → j < k → get_or os j 0 < m) → (j : ℕ) → j < length (take k os) → get_or (take k os) j 0 < m
  front_below m below j l =
      let n : j < k = omega (arith, length-take-le k os h) in
      rw (get_or-take k os j 0 n) (below j n)

-- ---- rules 1 to 4

abbrev judge : Bool → Bool → ℕ
judge current kept = cond current (cond kept 0 2) 1

module _
    (batch : List ℕ) (held : ℕ → Version) (m set : ℕ)
    (told : (i : ℕ) → member set i ≡ (ltb i m && current held (tx_at batch) i)) where
  -- the set has those below m that are current
  is_current : (i : ℕ) → i < m → member set i ≡ current held (tx_at batch) i
  is_current i h = told i ∙ ap (λ x. x && current held (tx_at batch) i) (lt-ltb i m h)

  sequence_is : by_ticket (λ i. (tx_at batch i).ticket) (those (member set) (upto m)) ≡ sequence held (tx_at batch) m
  unfolding sequence
  sequence_is = ap (by_ticket (λ i. (tx_at batch i).ticket)) (those-same (member set) (current held (tx_at batch)) (upto m) (λ i k. is_current i (upto_below m k)))

  once : T (distinct (sequence held (tx_at batch) m))
  once =
      let d = distinct-those (member set) (upto m) (upto-distinct m) in
      rw (← sequence_is) (perm-distinct (by_ticket-perm (λ i. (tx_at batch i).ticket) (those (member set) (upto m)) d) d)

  module _
      (ps blockers : List ℕ) (c left k placed : ℕ) (vs os vs' os' : List ℕ)
      (l : Lined (λ i. (tx_at batch i).ticket) (member set) m ps c)
      (agree : (r s : ℕ) → r < c → s < c → demands blockers r s ≡ before (tx_at batch) (nth ps r) (nth ps s))
      (small : left < 2 ^ 64) (inside : Lists (member left) (admit (demands blockers) [] (upto c)))
      (count : k ≡ length (members left 64))
      (filled : os' ≡ map (nth ps) (schedule (demands blockers) (λ x. x) (members left 64)) ++ drop k os)
      (listed : (i : ℕ) → member placed i ≡ any (eqb i) (take k os'))
      (judged : vs' ≡ tab m (λ i. cond (member set i) (cond (member placed i) 0 2) 1) ++ drop m vs) where
    order_of : map (nth ps) (schedule (demands blockers) (λ x. x) (members left 64)) ≡ order (tx_at batch) (sequence held (tx_at batch) m)
    unfolding order kept
    order_of =
        order_is (demands blockers) c left small inside (before (tx_at batch)) (λ i. (tx_at batch i).ticket) (member set) m ps l agree
        ∙ ap (λ q. schedule (before (tx_at batch)) (λ i. (tx_at batch i).ticket) (admit (before (tx_at batch)) [] q)) sequence_is

    front : take k os' ≡ order (tx_at batch) (sequence held (tx_at batch) m)
    front = filled_front (demands blockers) c left small inside (λ i. (tx_at batch i).ticket) (member set) m ps l k os os' count filled ∙ order_of

    many : k ≡ length (order (tx_at batch) (sequence held (tx_at batch) m))
    many = sym (filled_many (demands blockers) c left small inside (λ i. (tx_at batch i).ticket) (member set) m ps l k os os' count filled) ∙ ap length order_of

    verdict_of : (i : ℕ) → i < m → judge (member set i) (member placed i) ≡ verdict held (tx_at batch) (sequence held (tx_at batch) m) i
    unfolding verdict order kept
    verdict_of i h =
        ap₂ judge (is_current i h)
        (listed i ∙ ap (any (eqb i)) front ∙ scheduled (before (tx_at batch)) (λ i. (tx_at batch i).ticket) (sequence held (tx_at batch) m) once i)

    pub plan-made : Planned batch held m vs os k vs' os'
    plan-made = record {
      count_is = many;
      verdicts_are = judged ∙ ap (λ x. x ++ drop m vs) (tab-same (λ i. judge (member set i) (member placed i)) (verdict held (tx_at batch) (sequence held (tx_at batch) m)) m verdict_of);
      order_is = filled ∙ ap₂ (λ x n. x ++ drop n os) order_of many;
    }

-- ---- what a plan of the whole batch leaves

module _
    (batch : List ℕ) (held : ℕ → Version) (vs os : List ℕ) (k : ℕ) (vs' os' : List ℕ)
    (p : Planned batch held (pages batch) vs os k vs' os') where
  abbrev o : List ℕ
  o = order (tx_at batch) (sequence held (tx_at batch) (pages batch))

  pub few : k ≤ pages batch
  few = omega (arith, p.count_is, order-short held (tx_at batch) (pages batch))

  -- the front of the order list is the order
  pub front_is : take k os' ≡ o
  front_is = ap (take k) p.order_is ∙ take_at o (drop (length o) os) k (sym p.count_is)

  pub named_is : (j : ℕ) → j < k → get_or os' j 0 ≡ get_or o j 0
  named_is j h = ap (λ l. get_or l j 0) p.order_is ∙ get_or-append o (drop (length o) os) 0 j (omega (arith, p.count_is))

  -- each page that it names is one of the batch
  pub named_below : (j : ℕ) → j < k → get_or os' j 0 < pages batch
  named_below j h =
      rw (named_is j h)
      (order_below held (tx_at batch) (pages batch) _ (sequence-perm held (tx_at batch) (pages batch)) (get_or_in o j 0 (omega (arith, p.count_is))))

  -- the transactions that it names
  pub named_txs : txs_in batch os' k ≡ map (tx_at batch) o
  unfolding txs_in
  named_txs =
      tab-same _ (λ j. tx_at batch (get_or o j 0)) k (λ j h. ap (tx_at batch) (named_is j h))
      ∙ ap (λ n. tab n (λ j. tx_at batch (get_or o j 0))) p.count_is
      ∙ tab-map (tx_at batch) o

  pub plan_copied : (out out' : List ℕ) → out' ≡ gathered batch (take k os') ++ drop (512 * length (take k os')) out → planned (Ok k) vs' os' out' ≡ plans batch held (sequence held (tx_at batch) (pages batch)) vs os out
  unfolding plans
  plan_copied out out' copied = rw (copied, front_is, p.count_is, p.verdicts_are, p.order_is)
