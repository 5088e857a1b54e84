-- Rules that run one by one, in an order in which no one writes what a later one reads: each makes the writes on its page, and commit does the same. Assumes nothing.
use Prim.Native.Nat.{ℕ, suc, ◌+◌, ◌<◌}
use native.Mathlib.Nat.{add-zero, add-suc, suc-add}
use native.Mathlib.Omega.{arith}
use mathlib.Core.Bool.{Bool, false, not, cond}
use mathlib.Core.List.Memᴰ
use mathlib.Core.List.{List, [], ◌∷◌, ◌++◌, map}
use mathlib.Core.Logic.{⊎_elim}
use mathlib.Core.Path.{◌≡◌, refl, sym, ap, ap₂, ◌∙◌}
use lib.ListN.{length, replicate}
use lib.Seq.{get_or-set_same}
use lib.IntN.{pos}
use lib.Dec.{T, ltb, ltb→lt}
use Rattle.lists.specs.Members.{◌∈◌, any, distinct}
use Rattle.lists.proofs.Tests.{is_true, clash, decide}
use Rattle.lists.proofs.Membership.{any_in, in_at, map_same}
use Rattle.orders.specs.Chain.{ordered}
use Rattle.ledger.specs.declared.Write.{Write}
use Rattle.ledger.specs.Tx.{Tx, keys_read, writer, no_write, write_of}
use Rattle.ledger.specs.declared.Entry.{Entry}
use Rattle.ledger.specs.declared.Stamp.{Stamp}
use Rattle.ledger.specs.State.{State, keys, versions, entry, store}
use Rattle.ledger.specs.Gate.{beyond}
use Rattle.ledger.specs.Commit.{passes, stamp, left, write, commit, verdicts}
use Rattle.ledger.specs.Inner.{Level, applied}
use Rattle.ledger.proofs.Commits.{kept_level, store_kept, write_kept}
use Rattle.ledger.proofs.Faults.{or_none}
use Rattle.ledger.proofs.Rising.{Rising}
use Rattle.planning.specs.Plan.{before}
use Rattle.claims.specs.Serial.{seen, Rules, run, made}
use Rattle.planning.proofs.Words.{no_write_lem}
use Rattle.planning.proofs.Passing.{write-other, Agree, Passing, passing, passing_next, now_passes, after-writes, commit-applied}

-- ---- what stands at a key after a write

pub entry-same : (s : State) (k : ℕ) (e : Entry) → Level s → k < keys s → entry (store s k e) k ≡ e
unfolding entry store
entry-same s k e z h = λ i. record {
  version = record {
    block = get_or-set_same s.blocks k e.version.block 0 h i;
    place = get_or-set_same s.places k e.version.place 0 (omega (arith, z.places)) i;
  };
  value = get_or-set_same s.values k e.value (pos 0) (omega (arith, z.values)) i;
}

-- the keys of these writes rise
abbrev Rise : List Write → Type 0
Rise ws = Rising (λ i. (write_of ws i).key) (length ws)

rise_rest : (v : Write) (ws : List Write) → Rise (v ∷ ws) → Rise ws
rise_rest v ws r = record { rises = λ i j l h. r.rises (suc i) (suc j) (omega arith) (omega arith); small = λ i h. r.small (suc i) (omega arith) }

none_later : (v : Write) (ws : List Write) → Rise (v ∷ ws) → (w : Write) → w ∈ ws → w.key ≡ v.key → ⊥
none_later v ws r w m e =
    let at = in_at ws no_write m in
    let up = r.rises 0 (suc at.0) (omega arith) (omega (arith, at.1)) in
    omega (arith, ap (λ (x : Write). x.key) at.2)

pub write-last :
    (st : Stamp) (s : State) (ws : List Write) (w : Write) → Level s → w ∈ ws → Rise ws → w.key < keys s →
    entry (write st s ws) w.key ≡ left st w
unfolding write
write-last st s [] w z x4 r h = elim x4 [ ]
write-last st s (v ∷ ws) w z (Memᴰ.head e) r h =
    rw e (write-other st (store s v.key (left st v)) ws v.key (none_later v ws r) ∙ entry-same s v.key (left st v) z (rw e at h))
write-last st s (v ∷ ws) w z (Memᴰ.tail m) r h =
    let t = store s v.key (left st v) in
    let k = store_kept s v.key (left st v) in
    write-last st t ws w (kept_level s t k z) m (rise_rest v ws r) (rw k.blocks h)

-- a key of a transaction that has none beyond k
pub key_below : (k : ℕ) (x : Tx) → beyond k x ≡ false → {w : Write} → w ∈ x.writes → w.key < k
key_below k x e {w} m =
    let f = or_none (any (λ r. not (ltb r.key k)) x.reads) (any (λ v. not (ltb v.key k)) x.writes) e in
    ⊎_elim
    (λ t. ltb→lt w.key k t)
    (λ t. absurd (clash (sym (is_true _ (any_in (λ v. not (ltb v.key k)) x.writes m t)) ∙ f.1)))
    (decide (ltb w.key k))

-- ---- a transaction sees the same where it reads the same

agree_seen : (s t : State) (x : Tx) → Agree s t x → seen s x ≡ seen t x
unfolding seen
agree_seen s t x h = map_same (entry s) (entry t) (keys_read x) h

-- ---- those that are still to run

-- the rules that make the writes on the pages, whatever was read
abbrev pub on_pages : (ℕ → Tx) → Rules
on_pages b i es = (b i).writes

module _ (b : ℕ → Tx) where
  -- what holds of os, still to run, at the state s: each of them sees what it saw at the start, where its rule makes its writes
  pub record Waiting (start : State) (rule : Rules) (s : State) (os : List ℕ) : Type 0 where
    pub passing : Passing b start s os
    pub fixed : (i : ℕ) → i ∈ os → rule i (seen start (b i)) ≡ (b i).writes

  pub waiting :
      (s : State) (rule : Rules) (os : List ℕ) → T (ordered (before b) os) → T (distinct os) →
      ((i : ℕ) → i ∈ os → rule i (seen s (b i)) ≡ (b i).writes) → ((i : ℕ) → i ∈ os → T (passes (versions s) (b i))) → Waiting s rule s os
  waiting s rule os f d g h = record { passing = passing b s os f d h; fixed = g }

  module _ (n : ℕ) (start : State) (rule : Rules) where
    next : (p : ℕ) (s : State) (i : ℕ) (os : List ℕ) → Waiting start rule s (i ∷ os) → Waiting start rule (write (stamp n p) s (b i).writes) os
    next p s i os z = record { passing = passing_next b n start p s i os z.passing; fixed = λ u m. z.fixed u (Memᴰ.tail m) }

    makes : (s : State) (i : ℕ) (os : List ℕ) → Waiting start rule s (i ∷ os) → rule i (seen s (b i)) ≡ (b i).writes
    makes s i os z = ap (rule i) (agree_seen s start (b i) (z.passing.agree i (Memᴰ.head refl))) ∙ z.fixed i (Memᴰ.head refl)

    -- "Each rule then makes the writes on its page"
    pub made-pages : (p : ℕ) (s : State) (os : List ℕ) → Waiting start rule s os → made b n p rule s os ≡ map (λ i. (b i).writes) os
    unfolding made
    made-pages p s [] z = refl
    made-pages p s (i ∷ os) z = rw (makes s i os z) (ap (λ l. (b i).writes ∷ l) (made-pages (suc p) (write (stamp n p) s (b i).writes) os (next p s i os z)))

    run-pages : (p : ℕ) (s : State) (os : List ℕ) → Waiting start rule s os → run b n p rule s os ≡ run b n p (on_pages b) s os
    unfolding run
    run-pages p s [] z = refl
    run-pages p s (i ∷ os) z = rw (makes s i os z) (run-pages (suc p) (write (stamp n p) s (b i).writes) os (next p s i os z))

    run-applied : (p : ℕ) (s : State) (os : List ℕ) → applied n p s (map b os) ≡ run b n p (on_pages b) s os
    unfolding applied run
    run-applied p s [] = refl
    run-applied p s (i ∷ os) = run-applied (suc p) (write (stamp n p) s (b i).writes) os

    -- "the state and its versions are those of our commit"
    pub commit_runs : (p : ℕ) (s : State) (os : List ℕ) → Waiting start rule s os → commit n p s (map b os) ≡ run b n p rule s os
    commit_runs p s os z = commit-applied b n start p s os z.passing ∙ run-applied p s os ∙ sym (run-pages p s os z)

    -- "which fails none of them"
    pub fails_none : (p : ℕ) (s : State) (os : List ℕ) → Waiting start rule s os → verdicts n p s (map b os) ≡ replicate (length os) 0
    unfolding verdicts
    fails_none p s [] z = refl
    fails_none p s (i ∷ os) z =
        ap₂ (λ (t : Bool) (x : State). cond t 0 3 ∷ verdicts n (suc p) x (map b os))
        (now_passes b n start s i os z.passing) (after-writes b n start p s i os z.passing)
        ∙ ap (λ l. 0 ∷ l) (fails_none (suc p) (write (stamp n p) s (b i).writes) os (next p s i os z))

  -- ---- where a key ends

  pub run-other :
      (n p : ℕ) (s : State) (os : List ℕ) (k : ℕ) → ((u : ℕ) → u ∈ os → T (not (writer (b u) k))) →
      entry (run b n p (on_pages b) s os) k ≡ entry s k
  unfolding run
  run-other n p s [] k f = refl
  run-other n p s (i ∷ os) k f =
      run-other n (suc p) (write (stamp n p) s (b i).writes) os k (λ u m. f u (Memᴰ.tail m))
      ∙ write-other (stamp n p) s (b i).writes k (no_write_lem (b i) k (f i (Memᴰ.head refl)))

  run-last :
      (n p : ℕ) (s : State) (xs : List ℕ) (i : ℕ) (ys : List ℕ) (w : Write) →
      Level s → w ∈ (b i).writes → Rise (b i).writes → w.key < keys s →
      ((u : ℕ) → u ∈ ys → T (not (writer (b u) w.key))) →
      entry (run b n p (on_pages b) s (xs ++ i ∷ ys)) w.key ≡ left (stamp n (p + length xs)) w
  unfolding run
  run-last n p s [] i ys w z m r h f =
      rw (add-zero p) (run-other n (suc p) (write (stamp n p) s (b i).writes) ys w.key f ∙ write-last (stamp n p) s (b i).writes w z m r h)
  run-last n p s (x ∷ xs) i ys w z m r h f =
      let t = write (stamp n p) s (b x).writes in
      let k = write_kept (stamp n p) s (b x).writes in
      rw (add-suc p (length xs), ← suc-add p (length xs)) (run-last n (suc p) t xs i ys w (kept_level s t k z) m r (rw k.blocks h) f)

  module _ (n : ℕ) (s : State) (rule : Rules) (os : List ℕ) (z : Waiting s rule s os) where
    -- "each key ends as its last writer in that order leaves it"
    pub ends_last :
        (xs : List ℕ) (i : ℕ) (ys : List ℕ) (w : Write) → os ≡ xs ++ i ∷ ys →
        Level s → w ∈ (b i).writes → Rise (b i).writes → w.key < keys s →
        ((u : ℕ) → u ∈ ys → T (not (writer (b u) w.key))) →
        entry (run b n 0 rule s os) w.key ≡ left (stamp n (length xs)) w
    ends_last xs i ys w e l m r h f = rw (run-pages n s rule 0 s os z, e) (run-last n 0 s xs i ys w l m r h f ∙ ap (λ p. left (stamp n p) w) (omega arith))

    -- and one that no one writes as it began
    pub ends-unwritten : (k : ℕ) → ((u : ℕ) → u ∈ os → T (not (writer (b u) k))) → entry (run b n 0 rule s os) k ≡ entry s k
    ends-unwritten k f = rw (run-pages n s rule 0 s os z) (run-other n 0 s os k f)
