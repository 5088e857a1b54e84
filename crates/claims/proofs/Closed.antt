-- A closed lot is not a lot that never was: over any calls one after the other. Assumes nothing.
use Prim.Native.Nat.{ℕ, ◌+◌, ◌-◌, ◌*◌, ◌≤◌, ◌<◌}
use native.Mathlib.Decide.{dec_lt}
use native.Mathlib.Omega.{arith}
use mathlib.Core.Bool.{false}
use mathlib.Core.List.Permᴰ
use mathlib.Core.List.{List, [], ◌∷◌, ◌++◌}
use mathlib.Core.Path.{◌≡◌, refl, sym, ap, ◌∙◌}
use lib.ListN.{length, take, replicate, length-replicate, get_or-replicate, get_or-append}
use lib.IntN.{pos}
use lib.Dec.{T}
use Rattle.lists.specs.Members.{◌∈◌}
use Rattle.lists.proofs.Tests.{is_true, of_true, clash, no_true, eqb_turned}
use Rattle.lists.proofs.Membership.{all-out, in_at, map-out, perm_in, perm-length}
use Rattle.refusals.specs.Outcome.{Outcome, gives, refuses}
use Rattle.ledger.specs.declared.Version.{Version}
use Rattle.ledger.specs.declared.Write.{Write}
use Rattle.ledger.specs.declared.Entry.{Entry}
use Rattle.ledger.specs.Version.{absent, same, is_absent}
use Rattle.ledger.specs.Tx.{Tx, keys_written, writer, no_write, write_of}
use Rattle.ledger.specs.Page.{page_at}
use Rattle.ledger.specs.State.{State, versions, entry}
use Rattle.ledger.specs.Gate.{pages, tx_at}
use Rattle.ledger.specs.Commit.{names, passes, stamp, left, Commits, commit_batch}
use Rattle.planning.specs.Plan.{Plans, plan_batch}
use Rattle.planning.specs.Joined.{settled, plan_and_commit}
use Rattle.ledger.proofs.Gated.{gate_open}
use Rattle.ledger.proofs.Rising.{write-keys}
use Rattle.planning.proofs.Opened.{own, plan-clear}
use Rattle.planning.proofs.OutBatch.{gathered-pages, gathered-page}
use Rattle.planning.proofs.Words.{writes_key}
use Rattle.claims.specs.Third.{verdict_at}
use Rattle.claims.specs.Closed.{Call, commits, joins, next, after_calls, Writes, Wrote, Known, PassingWrite, reached, version_left, Leaves}
use Rattle.claims.proofs.AnyOrder.{zeros_in, zeros-out}
use Rattle.claims.proofs.Marked.{left-not-absent, left-told}
use Rattle.claims.proofs.Running.{on_pages}
use Rattle.claims.proofs.Demand3.{demand_3}
use Rattle.claims.proofs.Joined.{state_given}
use Rattle.claims.proofs.Refusals.{commit_unchanged}
use Rattle.claims.proofs.Reached.{There, reached-all, verdict_is, stands-passes, passes-stands, taken_through, wrote_at, later_there, begun_there, later_same}

-- ---- a page that reads a key as absent

-- a version is the same as absent, either way round
turned : (v : Version) → same absent v ≡ is_absent v
turned v = rw (eqb_turned 0 v.block, eqb_turned 65535 v.place)

not_passing : (s : State) (x : Tx) (k : ℕ) → There s k → record { key = k; version = absent } ∈ x.reads → passes (versions s) x ≡ false
unfolding passes entry
not_passing s x k e m =
    no_true (passes (versions s) x)
    (λ t. clash (sym (is_true _ (all-out (names (versions s)) x.reads (of_true _ t) m)) ∙ turned (versions s k) ∙ e))

known : (s : State) (k : ℕ) → There s k → Known s k
unfolding plan_and_commit
known s k e = record {
  not-absent = e;
  fails = λ batch n vs count i taken h m.
      verdict_is batch s n vs count taken i 0 h
      ∙ rw (not_passing (reached batch s n i) (tx_at batch i) k (begun_there batch s n vs count taken i k (omega arith) e) m);
  stale = λ batch n vs os out count i taken h m.
      ((demand_3 batch s n vs os out count taken).stale i h).1 (not_passing s (tx_at batch i) k e m);
  joined-stale = λ batch n vs os count i taken h m.
      ((demand_3 batch s n vs os (replicate (512 * pages batch) 0) count taken).stale i h).1 (not_passing s (tx_at batch i) k e m);
}

-- ---- a key that is not absent stays so

-- one call, refused or not
commit_there : (batch : List ℕ) (s : State) (n : ℕ) (vs : List ℕ) (k : ℕ) → There s k → There (commit_batch batch s n vs).state k
commit_there batch s n vs k e = go (commit_batch batch s n vs).answer refl
  where
    go : (o : Outcome ℕ) → (commit_batch batch s n vs).answer ≡ o → There (commit_batch batch s n vs).state k
    go (gives count) a = rw (reached-all batch s n vs count a) (begun_there batch s n vs count a (pages batch) k (omega arith) e)
    go (refuses number place) a = rw (commit_unchanged batch s n vs number place a).0 e

settled_there : (s : State) (n : ℕ) (k : ℕ) (p : Plans) → There s k → There (settled s n p) k
settled_there s n k p e = go p.answer
  where
    go : (o : Outcome ℕ) → There (settled s n (record { answer = o; verdicts = p.verdicts; order = p.order; out = p.out })) k
    go (gives count) = commit_there (take (512 * count) p.out) s n (replicate count 0) k e
    go (refuses number place) = e

next_there : (s : State) (c : Call) (k : ℕ) → There s k → There (next s c) k
unfolding plan_and_commit
next_there s (commits batch n vs) k e = commit_there batch s n vs k e
next_there s (joins batch n vs os) k e = settled_there s n k (plan_batch batch s n vs os (replicate (512 * pages batch) 0)) e

calls_there : (s : State) (cs : List Call) (k : ℕ) → There s k → There (after_calls s cs) k
unfolding after_calls
calls_there s [] k e = e
calls_there s (c ∷ cs) k e = calls_there (next s c) cs k (next_there s c k e)

-- a key that a state does not have as absent, over any calls
pub not_absent_stays : (s : State) (cs : List Call) (k : ℕ) → is_absent (entry s k).version ≡ false → Known (after_calls s cs) k
not_absent_stays s cs k e = known (after_calls s cs) k (calls_there s cs k e)

-- ---- a key that is written is not absent

-- a writer of a key has a write of it
write_of_lem : (x : Tx) (k : ℕ) → T (writer x k) → (w : Write) × (w ∈ x.writes) × (k ≡ w.key)
unfolding keys_written
write_of_lem x k t = map-out (λ w. w.key) x.writes ((writes_key x k).0 t)

commit-wrote :
    (batch : List ℕ) (s : State) (n : ℕ) (vs : List ℕ) (k : ℕ) →
    Writes batch (commit_batch batch s n vs).answer (commit_batch batch s n vs).verdicts k → There (commit_batch batch s n vs).state k
commit-wrote batch s n vs k h =
    let i = h.page in
    let w = write_of_lem (tx_at batch i) k h.writes in
    let few = (taken_through batch s n vs h.count h.taken).ready.few in
    let left_there : There (reached batch s n (i + 1)) w.0.key =
    rw (wrote_at batch s n vs h.count h.taken i w.0 h.inside (stands-passes batch s n vs h.count h.taken i h.inside h.stands) w.1)
    (left-not-absent n i w.0 (omega (arith, h.inside))) in
    let more : i + 1 + (pages batch - (i + 1)) ≡ pages batch = omega (arith, h.inside) in
    rw (reached-all batch s n vs h.count h.taken)
    (ap (λ j. is_absent (entry (reached batch s n j) k).version) (sym more)
    ∙ later_there batch s n vs h.count h.taken (i + 1) (pages batch - (i + 1)) k (omega arith) (rw w.2 left_there))

module _ (batch : List ℕ) (s : State) (n : ℕ) (vs os : List ℕ) (k : ℕ) where
  -- the plan that the joined call is defined by
  abbrev room : List ℕ
  room = replicate (512 * pages batch) 0

  abbrev p : Plans
  p = plan_batch batch s n vs os room

  -- of a page that plan keeps, commit of the out batch passes the copy
  kept-wrote :
      (h : Writes batch p.answer p.verdicts k) →
      let c = commit_batch (take (512 * h.count) p.out) s n (replicate h.count 0) in
      Writes (take (512 * h.count) p.out) c.answer c.verdicts k
  kept-wrote h =
      let c = demand_3 batch s n vs os room h.count h.taken in
      let o = take h.count p.order in
      let z = c.third.ours.all_once in
      let many : length o ≡ h.count = sym (perm-length z) ∙ sym c.count in
      let at = in_at o 0 (perm_in z (zeros_in batch p.verdicts h.page h.inside h.stands)) in
      let whole = (gate_open (own batch s n vs os room) batch s n (plan-clear batch s n vs os room h.taken).0).ready.whole in
      let inside : (i : ℕ) → i ∈ o → i < pages batch = λ i m. (zeros-out batch p.verdicts (perm_in (Permᴰ.symm z) m)).0 in
      let e = c.third.commits (on_pages (tx_at batch)) (λ i m. refl) (replicate h.count 0) (omega (arith, length-replicate {A = ℕ} h.count 0)) in
      rw c.out-pages (record {
        count = length o;
        taken = ap (λ (x : Commits). x.answer) e;
        page = at.0;
        inside = rw (gathered-pages batch (pages batch) whole o inside) at.1;
        stands =
            ap (λ (x : Commits). verdict_at x.verdicts at.0) e
            ∙ get_or-append (replicate (length o) 0) _ 3 at.0 (omega (arith, at.1, length-replicate {A = ℕ} (length o) 0))
            ∙ get_or-replicate {A = ℕ} (length o) at.0 0 3 at.1;
        writes = rw (gathered-page batch (pages batch) whole o inside at.0 at.1, ← at.2) h.writes;
      })

  joined-wrote : Writes batch (plan_and_commit batch s n vs os).answer (plan_and_commit batch s n vs os).verdicts k → There (plan_and_commit batch s n vs os).state k
  unfolding plan_and_commit
  joined-wrote h =
      ap (λ (u : State). is_absent (entry u k).version) (state_given batch s n vs os h.count h.taken)
      ∙ commit-wrote (take (512 * h.count) p.out) s n (replicate h.count 0) k (kept-wrote h)

wrote : (s : State) (c : Call) (k : ℕ) → Wrote s c k → There (next s c) k
wrote s (commits batch n vs) k h = commit-wrote batch s n vs k h
wrote s (joins batch n vs os) k h = joined-wrote batch s n vs os k h

after-append : (s : State) (cs ds : List Call) → after_calls s (cs ++ ds) ≡ after_calls (after_calls s cs) ds
unfolding after_calls
after-append s [] ds = refl
after-append s (c ∷ cs) ds = after-append (next s c) cs ds

-- a key that was once written is never absent again, whatever calls came before and come after
pub once_written :
    (s : State) (before : List Call) (c : Call) (later : List Call) (k : ℕ) →
    Wrote (after_calls s before) c k → Known (after_calls s (before ++ (c ∷ later))) k
unfolding after_calls
once_written s before c later k h =
    let t = after_calls s before in
    rw (after-append s before (c ∷ later)) (not_absent_stays (next t c) later k (wrote t c k h))

-- ---- what a passing write leaves

module _ (batch : List ℕ) (s : State) (n : ℕ) (vs : List ℕ) (i : ℕ) (w : Write) (h : PassingWrite batch s n vs i w) where
  few : i ≤ 63
  few = omega (arith, h.inside, (taken_through batch s n vs h.count h.taken).ready.few)

  left_is : entry (reached batch s n (i + 1)) w.key ≡ left (stamp n i) w
  left_is =
      wrote_at batch s n vs h.count h.taken i w h.inside
      (stands-passes batch s n vs h.count h.taken i h.inside h.passes) h.on_page

  -- what the write says, with (n, i)
  pub leaves : Leaves batch s n vs i w.key (left (stamp n i) w)
  leaves = record {
    at_once = left_is;
    at_end = λ f.
        let more : i + 1 + (pages batch - (i + 1)) ≡ pages batch = omega (arith, h.inside) in
        ap (λ (u : State). entry u w.key) (reached-all batch s n vs h.count h.taken)
        ∙ ap (λ j. entry (reached batch s n j) w.key) (sym more)
        ∙ later_same batch s n vs h.count h.taken (i + 1) (pages batch - (i + 1)) w.key (omega arith)
        (λ u a b e. f u (omega arith) (omega (arith, more)) (passes-stands batch s n vs h.count h.taken u (omega (arith, more)) e))
        ∙ left_is;
  }

-- "a delete, also of an absent key, leaves value 0 and version (n, i + 32768)": exactly that
pub delete_leaves :
    (batch : List ℕ) (s : State) (n : ℕ) (vs : List ℕ) (i k : ℕ) → PassingWrite batch s n vs i (record { key = k; kind = 1; value = pos 0 }) →
    Leaves batch s n vs i k (record { version = record { block = n; place = i + 32768 }; value = pos 0 })
delete_leaves batch s n vs i k h = leaves batch s n vs i (record { key = k; kind = 1; value = pos 0 }) h

-- ---- two passing writes

-- one place, one key: one write
once_a_page :
    (batch : List ℕ) (s : State) (n : ℕ) (vs : List ℕ) (i : ℕ) (w v : Write) →
    PassingWrite batch s n vs i w → PassingWrite batch s n vs i v → w.key ≡ v.key → w ≡ v
once_a_page batch s n vs i w v h l e =
    let ws = (tx_at batch i).writes in
    let r = write-keys (page_at batch i) ((taken_through batch s n vs h.count h.taken).ready.each i h.inside).good in
    let a = in_at ws no_write h.on_page in
    let b = in_at ws no_write l.on_page in
    let ka = ap (λ (x : Write). x.key) a.2 in
    let kb = ap (λ (x : Write). x.key) b.2 in
    elim (dec_lt a.0 b.0) [
      | yes x ↦ absurd (omega (arith, r.rises a.0 b.0 x b.1))
      | no x ↦ elim (dec_lt b.0 a.0) [
        | yes y ↦ absurd (omega (arith, r.rises b.0 a.0 y a.1))
        | no y ↦ a.2 ∙ ap (λ j. write_of ws j) (omega arith) ∙ sym b.2
      ]
    ]

-- two passing writes under different numbers, of whatever keys, leave different versions
pub numbers_apart :
    (batch : List ℕ) (s : State) (n : ℕ) (vs : List ℕ) (i : ℕ) (w : Write) → PassingWrite batch s n vs i w →
    (batch' : List ℕ) (s' : State) (n' : ℕ) (vs' : List ℕ) (i' : ℕ) (w' : Write) → PassingWrite batch' s' n' vs' i' w' →
    (n ≡ n' → ⊥) → version_left batch s n i w ≡ version_left batch' s' n' i' w' → ⊥
numbers_apart batch s n vs i w h batch' s' n' vs' i' w' h' f e =
    f
    (left-told n i w (few batch s n vs i w h) n' i' w' (few batch' s' n' vs' i' w' h')
    (ap (λ (x : Entry). x.version) (sym (left_is batch s n vs i w h)) ∙ e ∙ ap (λ (x : Entry). x.version) (left_is batch' s' n' vs' i' w' h'))).0

-- and so do two different ones of one key in one batch
pub writes_apart :
    (batch : List ℕ) (s : State) (n : ℕ) (vs : List ℕ) (i j : ℕ) (w v : Write) → PassingWrite batch s n vs i w → PassingWrite batch s n vs j v →
    w.key ≡ v.key → (i ≡ j → w ≡ v → ⊥) → version_left batch s n i w ≡ version_left batch s n j v → ⊥
writes_apart batch s n vs i j w v h l q f e =
    let p =
    (left-told n i w (few batch s n vs i w h) n j v (few batch s n vs j v l)
    (ap (λ (x : Entry). x.version) (sym (left_is batch s n vs i w h)) ∙ e ∙ ap (λ (x : Entry). x.version) (left_is batch s n vs j v l))).1 in
    f p (once_a_page batch s n vs i w v h (rw p l) q)
