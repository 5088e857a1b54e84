-- A batch that commit takes, page by page: the state that each page meets, its verdict, and what stands at a key. Assumes nothing.
use Prim.Native.Nat.{ℕ, zero, suc, ◌+◌, ◌≤◌, ◌<◌}
use native.Mathlib.Decide.{dec_lt}
use native.Mathlib.Nat.{add-zero, zero-add, add-suc}
use native.Mathlib.Numerals.{add-one}
use native.Mathlib.Omega.{arith}
use mathlib.Core.Bool.{Bool, true, false, not, cond}
use mathlib.Core.List.Memᴰ
use mathlib.Core.List.{List, [], ◌∷◌, ◌++◌}
use mathlib.Core.Logic.{⊎_elim}
use mathlib.Core.Path.{◌≡◌, refl, sym, ap, ◌∙◌}
use lib.ListN.{length, get_or, drop, get_or-append}
use lib.Seq.{get_or-append_seam}
use lib.Dec.{T, eqb, eqb→eq}
use Rattle.lists.specs.Members.{◌∈◌}
use Rattle.lists.specs.Tables.{tab}
use Rattle.lists.proofs.Tests.{decide, differ, is_true, is_false}
use Rattle.lists.proofs.Tables.{length-tab}
use Rattle.refusals.specs.Outcome.{gives}
use Rattle.refusals.specs.Fault.{clear, first}
use Rattle.refusals.proofs.Rows.{judged-gives}
use Rattle.ledger.specs.declared.Write.{Write}
use Rattle.ledger.specs.Version.{is_absent}
use Rattle.ledger.specs.Tx.{writer}
use Rattle.ledger.specs.Page.{page_at}
use Rattle.ledger.specs.State.{State, keys, versions, entry, store}
use Rattle.ledger.specs.Gate.{pages, tx_at, txs}
use Rattle.ledger.specs.Commit.{passes, stamp, left, write, after_page, check_verdict, commit, verdicts, passed, Commits, commit_batch, commit_rows}
use Rattle.ledger.specs.Inner.{Level}
use Rattle.ledger.proofs.Commits.{Kept, kept_level, store_kept, commit-kept, next-commit, next-verdicts, verdicts-length, own, commit_open}
use Rattle.ledger.proofs.Rising.{write-keys}
use Rattle.ledger.proofs.Gated.{gate_fault, gate_open, Through}
use Rattle.planning.proofs.Passing.{entry_other, write-other}
use Rattle.planning.proofs.Words.{no_write_lem}
use Rattle.claims.specs.Third.{verdict_at}
use Rattle.claims.specs.Closed.{reached}
use Rattle.claims.proofs.Marked.{left-not-absent}
use Rattle.claims.proofs.Running.{entry-same, write-last, key_below}

-- ---- a key that is not absent, over the writes of a page

-- it is not absent
abbrev pub There : State → ℕ → Type 0
There s k = is_absent (entry s k).version ≡ false

module _ (n i : ℕ) (h : i ≤ 63) where
  -- one write
  stored_there : (s : State) (w : Write) → Level s → w.key < keys s → There (store s w.key (left (stamp n i) w)) w.key
  stored_there s w z l = rw (entry-same s w.key (left (stamp n i) w) z l) (left-not-absent n i w h)

  still_there :
      (s : State) (w : Write) (k : ℕ) → Level s → w.key < keys s →
      There s k → There (store s w.key (left (stamp n i) w)) k
  still_there s w k z l e =
      ⊎_elim
      (λ t. rw (eqb→eq k w.key t) (stored_there s w z l))
      (λ t. rw (entry_other s w.key k (left (stamp n i) w) (differ k w.key t)) e)
      (decide (eqb k w.key))

  -- writes in turn, below the count of keys
  pub write_there :
      (s : State) (ws : List Write) (k : ℕ) → Level s → ((w : Write) → w ∈ ws → w.key < keys s) →
      There s k → There (write (stamp n i) s ws) k
  unfolding write
  write_there s [] k z f e = e
  write_there s (w ∷ ws) k z f e =
      let t = store s w.key (left (stamp n i) w) in
      let q = store_kept s w.key (left (stamp n i) w) in
      write_there t ws k (kept_level s t q z) (λ v m. rw q.blocks (f v (Memᴰ.tail m)))
      (still_there s w k z (f w (Memᴰ.head refl)) e)

-- ---- the pages of a batch that commit takes

module _ (batch : List ℕ) (s : State) (n : ℕ) where
  abbrev at : ℕ → State
  at j = reached batch s n j

  -- no page yet, and one page more
  none_yet : at 0 ≡ s
  unfolding tab commit
  none_yet = refl

  step : (j : ℕ) → at (j + 1) ≡ after_page n j (at j) (tx_at batch j)
  step j = next-commit (tx_at batch) s n [] j

  pub reached-kept : (j : ℕ) → Kept s (at j)
  reached-kept j = commit-kept n 0 s (tab j (tx_at batch))

  pub page-taken : (j : ℕ) → passes (versions (at j)) (tx_at batch j) ≡ true → at (j + 1) ≡ write (stamp n j) (at j) (tx_at batch j).writes
  unfolding after_page
  page-taken j e = step j ∙ rw e

  pub page-left : (j : ℕ) → passes (versions (at j)) (tx_at batch j) ≡ false → at (j + 1) ≡ at j
  unfolding after_page
  page-left j e = step j ∙ rw e

  -- each page's verdict is that of the check on the state that it meets
  each-verdict : (m i d : ℕ) → i < m → get_or (verdicts n 0 s (tab m (tx_at batch))) i d ≡ check_verdict (at i) (tx_at batch i)
  each-verdict zero i d h = absurd (omega arith)
  each-verdict (suc m) i d h =
      let old = verdicts n 0 s (tab m (tx_at batch)) in
      let new = check_verdict (at m) (tx_at batch m) in
      let long : length old ≡ m = verdicts-length n 0 s (tab m (tx_at batch)) ∙ length-tab (tx_at batch) m in
      let e : verdicts n 0 s (tab (suc m) (tx_at batch)) ≡ old ++ (new ∷ []) =
      ap (λ j. verdicts n 0 s (tab j (tx_at batch))) (sym (add-one m)) ∙ next-verdicts (tx_at batch) s n [] m in
      elim (dec_lt i m) [
        | yes l ↦ rw e (get_or-append old (new ∷ []) d i (omega arith) ∙ each-verdict m i d l)
        | no l ↦
            let q : i ≡ length old = omega arith in
            let r : i ≡ m = omega arith in
            rw e (ap (λ j. get_or (old ++ (new ∷ [])) j d) q ∙ get_or-append_seam old new [] d ∙ ap (λ j. check_verdict (at j) (tx_at batch j)) (sym r))
      ]

  module _ (vs : List ℕ) (count : ℕ) (taken : (commit_batch batch s n vs).answer ≡ gives count) where
    clear_gate : gate_fault (own batch s n vs) batch s n ≡ clear
    unfolding commit_batch
    clear_gate = (judged-gives (first (commit_rows batch s n vs)) count (passed (verdicts n 0 s (txs batch))) (sym taken)).0

    pub taken_through : Through batch s n
    taken_through = gate_open (own batch s n vs) batch s n clear_gate

    -- what commit leaves is what the last page leaves
    pub reached-all : (commit_batch batch s n vs).state ≡ at (pages batch)
    unfolding txs
    reached-all = ap (λ (c : Commits). c.state) (commit_open batch s n vs clear_gate)

    pub verdict_is : (i d : ℕ) → i < pages batch → get_or (commit_batch batch s n vs).verdicts i d ≡ check_verdict (at i) (tx_at batch i)
    unfolding txs
    verdict_is i d h =
        let new = verdicts n 0 s (txs batch) in
        let long : length new ≡ pages batch = verdicts-length n 0 s (txs batch) ∙ length-tab (tx_at batch) (pages batch) in
        ap (λ (c : Commits). get_or c.verdicts i d) (commit_open batch s n vs clear_gate)
        ∙ get_or-append new (drop (pages batch) vs) d i (omega arith)
        ∙ each-verdict (pages batch) i d h

    -- verdict 0 is that of a page that passes
    pub stands-passes : (i : ℕ) → i < pages batch → verdict_at (commit_batch batch s n vs).verdicts i ≡ 0 → passes (versions (at i)) (tx_at batch i) ≡ true
    stands-passes i h e = go (passes (versions (at i)) (tx_at batch i)) (sym (verdict_is i 3 h) ∙ e)
      where
        go : (b : Bool) → ◌≡◌ {A = ℕ} (cond b 0 3) 0 → b ≡ true
        go true q = refl
        go false q = absurd (omega arith)

    pub passes-stands : (i : ℕ) → i < pages batch → passes (versions (at i)) (tx_at batch i) ≡ true → verdict_at (commit_batch batch s n vs).verdicts i ≡ 0
    passes-stands i h e = verdict_is i 3 h ∙ rw e

    level : (j : ℕ) → Level (at j)
    level j = kept_level s (at j) (reached-kept j) taken_through.level

    below : (j : ℕ) → j < pages batch → (w : Write) → w ∈ (tx_at batch j).writes → w.key < keys (at j)
    below j h w m = rw (reached-kept j).blocks (key_below (keys s) (tx_at batch j) (taken_through.ready.each j h).within m)

    -- what a write of a passing page leaves directly after it
    pub wrote_at :
        (j : ℕ) (w : Write) → j < pages batch → passes (versions (at j)) (tx_at batch j) ≡ true → w ∈ (tx_at batch j).writes →
        entry (at (j + 1)) w.key ≡ left (stamp n j) w
    wrote_at j w h e m =
        rw (page-taken j e)
        (write-last (stamp n j) (at j) (tx_at batch j).writes w (level j) m (write-keys (page_at batch j) (taken_through.ready.each j h).good) (below j h w m))

    -- a page after which a key stands as before, and one that leaves it there
    page-other : (j k : ℕ) → j < pages batch → (passes (versions (at j)) (tx_at batch j) ≡ true → T (not (writer (tx_at batch j) k))) → entry (at (j + 1)) k ≡ entry (at j) k
    page-other j k h f =
        ⊎_elim
        (λ t. let e = is_true (passes (versions (at j)) (tx_at batch j)) t in
        rw (page-taken j e) (write-other (stamp n j) (at j) (tx_at batch j).writes k (no_write_lem (tx_at batch j) k (f e))))
        (λ t. ap (λ (u : State). entry u k) (page-left j (is_false _ t)))
        (decide (passes (versions (at j)) (tx_at batch j)))

    page_there : (j k : ℕ) → j < pages batch → There (at j) k → There (at (j + 1)) k
    page_there j k h e =
        ⊎_elim
        (λ t. rw (page-taken j (is_true _ t)) (write_there n j (omega (arith, taken_through.ready.few)) (at j) (tx_at batch j).writes k (level j) (below j h) e))
        (λ t. rw (page-left j (is_false _ t)) e)
        (decide (passes (versions (at j)) (tx_at batch j)))

    -- d pages more
    pub later_there : (i d k : ℕ) → i + d ≤ pages batch → There (at i) k → There (at (i + d)) k
    later_there i zero k h e = rw (add-zero i) e
    later_there i (suc d) k h e =
        ap (λ j. is_absent (entry (at j) k).version) (add-suc i d ∙ sym (add-one (i + d))) ∙ page_there (i + d) k (omega arith) (later_there i d k (omega arith) e)

    -- from the beginning on
    pub begun_there : (j k : ℕ) → j ≤ pages batch → There s k → There (at j) k
    begun_there j k h e =
        ap (λ i. is_absent (entry (at i) k).version) (sym (zero-add j)) ∙ later_there 0 j k (omega arith) (rw none_yet e)

    pub later_same :
        (i d k : ℕ) → i + d ≤ pages batch →
        ((u : ℕ) → i ≤ u → u < i + d → passes (versions (at u)) (tx_at batch u) ≡ true → T (not (writer (tx_at batch u) k))) →
        entry (at (i + d)) k ≡ entry (at i) k
    later_same i zero k h f = ap (λ j. entry (at j) k) (add-zero i)
    later_same i (suc d) k h f =
        ap (λ j. entry (at j) k) (add-suc i d ∙ sym (add-one (i + d)))
        ∙ page-other (i + d) k (omega arith) (f (i + d) (omega arith) (omega arith))
        ∙ later_same i d k (omega arith) (λ u a b. f u a (omega arith))
