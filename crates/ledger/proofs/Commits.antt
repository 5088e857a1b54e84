-- Laws of the version check and of commit. Assumes nothing.
use mathlib.Core.Path.{◌≡◌, refl, sym, ap, ◌∙◌}
use mathlib.Core.Bool.{Bool, true, false, not, ◌||◌, ◌&&◌, cond}
use mathlib.Core.List.{List, [], ◌∷◌, ◌++◌}
use Prim.Native.Nat.{ℕ, suc, ◌+◌, ◌≤◌, ◌<◌}
use native.Mathlib.Nat.{add-zero, add-suc, suc-add, zero-add}
use native.Mathlib.Numerals.{add-one}
use native.Mathlib.Omega.{arith}
use lib.ListN.{length, set, take, drop, length-append, length-drop, length-set}
use lib.Seq.{take-suc, take_all, drop-cons, set_at, append_snoc}
use lib.Dec.{eqb, ltb}
use lib.IntN.{pos}
use borrow.Author.Tests.{ne_eqb, not-false}
use Rattle.lists.specs.Search.{first_in}
use Rattle.lists.proofs.Searches.{some, none, all_search}
use Rattle.lists.proofs.Membership.{those-append}
use Rattle.refusals.specs.Outcome.{Outcome, gives, refuses}
use Rattle.refusals.specs.Fault.{clear, fault, Row}
use Rattle.ledger.specs.declared.Version.{Version}
use Rattle.ledger.specs.declared.Write.{Write}
use Rattle.ledger.specs.declared.Entry.{Entry}
use Rattle.ledger.specs.declared.Stamp.{Stamp}
use Rattle.lists.specs.Tables.{tab}
use Rattle.ledger.specs.Tx.{Tx, no_read, read_of, write_of, no_write, wrong_kind}
use Rattle.ledger.specs.State.{State, versions, store}
use Rattle.ledger.specs.Gate.{pages, tx_at, txs, lent_row}
use Rattle.ledger.specs.Commit.{names, passes, stamp, left, write, after_page, check_verdict, commit, verdicts, passed, commit_batch}
use Rattle.ledger.specs.Inner.{Level, Commitment, applied}
use Rattle.lists.proofs.Tables.{length-tab, tab-more}
use Rattle.ledger.specs.Value.{is_zero}
use Rattle.ledger.proofs.Faults.{and_both}
use Rattle.ledger.proofs.Zero.{zero_is}
use Rattle.ledger.proofs.Gated.{gate_fault}

-- ---- one more at the end

pub write-last : (st : Stamp) (s : State) (ws : List Write) (w : Write) → write st s (ws ++ (w ∷ [])) ≡ store (write st s ws) w.key (left st w)
unfolding write
write-last st s [] w = refl
write-last st s (v ∷ ws) w = write-last st (store s v.key (left st v)) ws w

pub commit-last : (n i : ℕ) (s : State) (xs : List Tx) (x : Tx) → commit n i s (xs ++ (x ∷ [])) ≡ after_page n (i + length xs) (commit n i s xs) x
unfolding commit
commit-last n i s [] x = rw add-zero
commit-last n i s (y ∷ xs) x = rw (add-suc, ← suc-add) (commit-last n (suc i) (after_page n i s y) xs x)

pub applied-last : (n i : ℕ) (s : State) (xs : List Tx) (x : Tx) → applied n i s (xs ++ (x ∷ [])) ≡ write (stamp n (i + length xs)) (applied n i s xs) x.writes
unfolding applied
applied-last n i s [] x = rw add-zero
applied-last n i s (y ∷ xs) x = rw (add-suc, ← suc-add) (applied-last n (suc i) (write (stamp n i) s y.writes) xs x)

pub verdicts-last : (n i : ℕ) (s : State) (xs : List Tx) (x : Tx) → verdicts n i s (xs ++ (x ∷ [])) ≡ verdicts n i s xs ++ (check_verdict (commit n i s xs) x ∷ [])
unfolding verdicts commit
verdicts-last n i s [] x = refl
verdicts-last n i s (y ∷ xs) x = ap (λ l. check_verdict s y ∷ l) (verdicts-last n (suc i) (after_page n i s y) xs x)

pub verdicts-length : (n i : ℕ) (s : State) (xs : List Tx) → length (verdicts n i s xs) ≡ length xs
unfolding verdicts
verdicts-length n i s [] = refl
verdicts-length n i s (y ∷ xs) = ap suc (verdicts-length n (suc i) (after_page n i s y) xs)

pub passed-last : (vs : List ℕ) (v : ℕ) → passed (vs ++ (v ∷ [])) ≡ passed vs + cond (eqb 0 v) 1 0
unfolding passed
passed-last vs v = rw (those-append (eqb 0) vs (v ∷ []), length-append) (ap (λ x. passed vs + x) (go (eqb 0 v)))
  where
    go : (b : Bool) → length (cond b (v ∷ []) []) ≡ cond b 1 0
    go true = refl
    go false = refl

-- ---- the lengths of the lists

-- the lists of t are as long as those of s
pub record Kept (s t : State) : Type 0 where
  pub blocks : length t.blocks ≡ length s.blocks
  pub places : length t.places ≡ length s.places
  pub values : length t.values ≡ length s.values

pub kept_level : (s t : State) → Kept s t → Level s → Level t
kept_level s t k l = record { places = k.places ∙ l.places ∙ sym k.blocks; values = k.values ∙ l.values ∙ sym k.blocks }

pub kept_self : (s : State) → Kept s s
kept_self s = record { blocks = refl; places = refl; values = refl }

pub kept_more : (r s t : State) → Kept r s → Kept s t → Kept r t
kept_more r s t k l = record { blocks = l.blocks ∙ k.blocks; places = l.places ∙ k.places; values = l.values ∙ k.values }

pub store_kept : (s : State) (k : ℕ) (e : Entry) → Kept s (store s k e)
unfolding store
store_kept s k e =
    record { blocks = length-set s.blocks k _; places = length-set s.places k _; values = length-set s.values k _ }

pub write_kept : (st : Stamp) (s : State) (ws : List Write) → Kept s (write st s ws)
unfolding write
write_kept st s [] = kept_self s
write_kept st s (w ∷ ws) =
    let t = store s w.key (left st w) in
    kept_more s t _ (store_kept s w.key (left st w)) (write_kept st t ws)

pub after_kept : (n i : ℕ) (s : State) (x : Tx) → Kept s (after_page n i s x)
unfolding after_page
after_kept n i s x = go (passes (versions s) x)
  where
    go : (b : Bool) → Kept s (cond b (write (stamp n i) s x.writes) s)
    go true = write_kept (stamp n i) s x.writes
    go false = kept_self s

pub commit-kept : (n i : ℕ) (s : State) (xs : List Tx) → Kept s (commit n i s xs)
unfolding commit
commit-kept n i s [] = kept_self s
commit-kept n i s (x ∷ xs) =
    let t = after_page n i s x in
    kept_more s t _ (after_kept n i s x) (commit-kept n (suc i) t xs)

pub applied-kept : (n i : ℕ) (s : State) (xs : List Tx) → Kept s (applied n i s xs)
unfolding applied
applied-kept n i s [] = kept_self s
applied-kept n i s (x ∷ xs) =
    let t = write (stamp n i) s x.writes in
    kept_more s t _ (write_kept (stamp n i) s x.writes) (applied-kept n (suc i) t xs)

pub applied-next : (tx : ℕ → Tx) (n i : ℕ) (s : State) → applied n 0 s (tab (i + 1) tx) ≡ write (stamp n i) (applied n 0 s (tab i tx)) (tx i).writes
applied-next tx n i s = rw (tab-more tx i, applied-last, length-tab, zero-add)

-- ---- the version check, as a search

-- it stops at the first read that does not name the version of its key, or behind the last
module _ (held : ℕ → Version) (x : Tx) where
  abbrev stale : ℕ → Bool
  stale i = not (names held (read_of x.reads i))

  pub fails_search : (stop : ℕ) → stop ≡ first_in stale 0 (length x.reads) → stop < length x.reads → false ≡ passes held x
  unfolding passes
  fails_search stop found l =
      sym (all_search (names held) no_read x.reads ∙ ap not (some stale 0 (length x.reads) stop found l))

  pub passes_search : length x.reads ≡ first_in stale 0 (length x.reads) → true ≡ passes held x
  unfolding passes
  passes_search end =
      sym (all_search (names held) no_read x.reads ∙ ap not (none stale 0 (length x.reads) (length x.reads) end (omega arith)))

-- ---- what a write leaves

-- a good write that is no put has value 0
pub delete-zero : (x : Write) → wrong_kind x ≡ false → (x.kind ≡ 0 → ⊥) → x.value ≡ pos 0
delete-zero x good other =
    let either = not-false (eqb x.kind 0 || (eqb x.kind 1 && is_zero x.value)) good in
    zero_is x.value (and_both (eqb x.kind 1) (is_zero x.value) (rw (ne_eqb x.kind 0 other) at either)).1

-- ---- the writes of a page in turn

-- j of the writes are made
pub record Writing (st : Stamp) (s : State) (ws : List Write) (j : ℕ) (t : State) : Type 0 where
  pub so_far : t ≡ write st s (take j ws)

pub writing_begins : (st : Stamp) (s : State) (ws : List Write) → Writing st s ws 0 s
unfolding write
writing_begins st s ws = record { so_far = refl }

module _ {st : Stamp} {s : State} {ws : List Write} {j : ℕ} {t : State} (h : Writing st s ws j t) where
  pub writing_kept : Kept s t
  writing_kept = rw h.so_far (write_kept st s (take j ws))

  pub writing_level : Level s → Level t
  writing_level l = kept_level s t writing_kept l

  pub writing_turns : (w : Write) (u : State) → j < length ws → w ≡ write_of ws j → u ≡ store t w.key (left st w) → Writing st s ws (j + 1) u
  writing_turns w u l e f = record {
    so_far = f ∙ rw (e, h.so_far, add-one, take-suc ws j no_write l) (sym (write-last st s (take j ws) (write_of ws j)));
  }

  pub writing_ends : length ws ≤ j → t ≡ write st s ws
  writing_ends l = h.so_far ∙ ap (write st s) (take_all j ws l)

-- ---- one page

module _ (n i : ℕ) (s : State) (x : Tx) where
  pub page-fails : passes (versions s) x ≡ false → s ≡ after_page n i s x
  unfolding after_page
  page-fails e = rw e

  pub page-passes : (t : State) → passes (versions s) x ≡ true → t ≡ write (stamp n i) s x.writes → t ≡ after_page n i s x
  unfolding after_page
  page-passes t e f = f ∙ rw e

-- ---- transactions in turn, told by their place

module _ (tx : ℕ → Tx) (s : State) (n : ℕ) (vs : List ℕ) where
  abbrev pub first : ℕ → List Tx
  first i = tab i tx

  -- i of them are committed: the state, the verdicts and the count of those that passed
  pub record Committing (i count : ℕ) (t : State) (ws : List ℕ) : Type 0 where
    pub state_is : t ≡ commit n 0 s (first i)
    pub verdicts_are : ws ≡ verdicts n 0 s (first i) ++ drop i vs
    pub count_is : count ≡ passed (verdicts n 0 s (first i))

  pub committing_begins : Committing 0 0 s vs
  unfolding tab commit verdicts passed
  committing_begins = record { state_is = refl; verdicts_are = refl; count_is = refl }

  many : (i : ℕ) → length (verdicts n 0 s (first i)) ≡ i
  many i = verdicts-length n 0 s (first i) ∙ length-tab tx i

  pub next-commit : (i : ℕ) → commit n 0 s (first (i + 1)) ≡ after_page n i (commit n 0 s (first i)) (tx i)
  next-commit i = rw (tab-more tx i, commit-last, length-tab, zero-add)

  pub next-verdicts : (i : ℕ) → verdicts n 0 s (first (i + 1)) ≡ verdicts n 0 s (first i) ++ (check_verdict (commit n 0 s (first i)) (tx i) ∷ [])
  next-verdicts i = rw (tab-more tx i, verdicts-last)

  module _ (i count : ℕ) (t : State) (ws : List ℕ) (c : Committing i count t ws) where
    pub committing_kept : Kept s t
    committing_kept = rw c.state_is (commit-kept n 0 s (first i))

    pub committing_long : i ≤ length vs → length ws ≡ length vs
    committing_long h = rw (c.verdicts_are, length-append, many i, length-drop) (omega arith)

    stored : (v : ℕ) → i < length vs → set ws i v ≡ (verdicts n 0 s (first i) ++ (v ∷ [])) ++ drop (i + 1) vs
    stored v h =
        rw (c.verdicts_are, drop-cons vs i 0 h, set_at (verdicts n 0 s (first i)) _ _ v i (many i), add-one)
        (sym (append_snoc (verdicts n 0 s (first i)) v (drop (suc i) vs)))

    -- x is the one at place i, b says whether it passes
    pub committing_turns : (x : Tx) (b : Bool) (more : ℕ) (u : State) (new : List ℕ) → i < length vs → x ≡ tx i
        → b ≡ passes (versions t) x
        → u ≡ after_page n i t x
        → more ≡ count + cond b 1 0
        → new ≡ set ws i (cond b 0 3)
        → Committing (i + 1) more u new
    committing_turns x b more u new h is e f g q =
        let v : ◌≡◌ {A = ℕ} (cond b 0 3) (check_verdict (commit n 0 s (first i)) (tx i)) = ap (λ y. cond y 0 3) (rw is at e) ∙ ap (λ r. check_verdict r (tx i)) c.state_is in
        record {
          state_is = rw is at f ∙ ap (λ r. after_page n i r (tx i)) c.state_is ∙ sym (next-commit i);
          verdicts_are = q ∙ stored (cond b 0 3) h ∙ rw (next-verdicts i, ← v);
          count_is = g ∙ rw (next-verdicts i, ← v, passed-last, ← c.count_is) (ap (λ y. count + y) (go b));
        }
      where
        go : (b : Bool) → ◌≡◌ {A = ℕ} (cond b 1 0) (cond (eqb 0 (cond b 0 3)) 1 0)
        go true = refl
        go false = refl

    pub committing_ends : (k : ℕ) → i ≡ k → Commitment (first k) s n vs count t ws
    committing_ends k e = rw (← e) (record {
      count_is = c.count_is;
      state_is = c.state_is;
      verdicts_are = rw (length-tab tx i) c.verdicts_are;
    })

-- ---- a batch

pub count-txs : (batch : List ℕ) → length (txs batch) ≡ pages batch
unfolding txs
count-txs batch = length-tab (tx_at batch) (pages batch)

module _ (batch : List ℕ) (s : State) (n : ℕ) (vs : List ℕ) where
  -- the rows of commit's own
  abbrev pub own : List Row
  own = lent_row (ltb (length vs) (pages batch)) ∷ []

  pub commit-refused : {o : Outcome ℕ} {number place : ℕ} → o ≡ refuses number place → gate_fault own batch s n ≡ fault number place
      → record { answer = o; state = s; verdicts = vs } ≡ commit_batch batch s n vs
  unfolding commit_batch
  commit-refused h e = rw (h, e)

  pub commit-taken : {count : ℕ} {t : State} {ws : List ℕ} → gate_fault own batch s n ≡ clear → Commitment (txs batch) s n vs count t ws
      → record { answer = gives count; state = t; verdicts = ws } ≡ commit_batch batch s n vs
  unfolding commit_batch
  commit-taken e c = rw (e, c.count_is, c.state_is, c.verdicts_are, count-txs batch)

  pub commit_open : gate_fault own batch s n ≡ clear
      → let new = verdicts n 0 s (txs batch) in
      commit_batch batch s n vs ≡ record { answer = gives (passed new); state = commit n 0 s (txs batch); verdicts = new ++ drop (pages batch) vs }
  unfolding commit_batch
  commit_open e = rw e
