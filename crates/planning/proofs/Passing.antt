-- Current pages in a forward order, each in its turn: no one writes what a later one reads, so each passes, and committing them is applying them. Assumes nothing.
use Prim.Native.Nat.{ℕ, suc}
use mathlib.Core.Bool.{true, not}
use mathlib.Core.List.Memᴰ
use mathlib.Core.List.{List, [], ◌∷◌, map}
use mathlib.Core.Path.{◌≡◌, refl, sym, ap, ◌∙◌}
use lib.Seq.{get_or-set_other}
use lib.IntN.{pos}
use lib.Dec.{T, T_not, not_T}
use Rattle.lists.specs.Members.{◌∈◌, all, distinct}
use Rattle.lists.proofs.Tests.{and_left, and_right, is_true, differ}
use Rattle.lists.proofs.Membership.{all-out, all_same, apart, rest}
use Rattle.orders.specs.Chain.{ordered}
use Rattle.ledger.specs.declared.Write.{Write}
use Rattle.ledger.specs.declared.Entry.{Entry}
use Rattle.ledger.specs.declared.Stamp.{Stamp}
use Rattle.ledger.specs.Version.{same}
use Rattle.ledger.specs.Tx.{Tx, keys_read, writer}
use Rattle.ledger.specs.State.{State, entry, versions, store}
use Rattle.ledger.specs.Commit.{names, passes, stamp, left, write, after_page, commit}
use Rattle.ledger.specs.Inner.{applied}
use Rattle.planning.specs.Plan.{before}
use Rattle.planning.proofs.Words.{reads-key, read_in_lem, no_write_lem, before-words}

-- ---- what stands at a key that is not written

pub entry_other : (s : State) (j k : ℕ) (e : Entry) → (k ≡ j → ⊥) → entry (store s j e) k ≡ entry s k
unfolding entry store
entry_other s j k e h = λ i. record {
  version = record {
    block = get_or-set_other s.blocks j k e.version.block 0 h i;
    place = get_or-set_other s.places j k e.version.place 0 h i;
  };
  value = get_or-set_other s.values j k e.value (pos 0) h i;
}

pub write-other :
    (st : Stamp) (s : State) (ws : List Write) (k : ℕ) → ((w : Write) → w ∈ ws → w.key ≡ k → ⊥) →
    entry (write st s ws) k ≡ entry s k
unfolding write
write-other st s [] k f = refl
write-other st s (w ∷ ws) k f =
    write-other st (store s w.key (left st w)) ws k (λ v m. f v (Memᴰ.tail m))
    ∙ entry_other s w.key k (left st w) (λ e. f w (Memᴰ.head refl) (sym e))

-- ---- two states that agree on what a transaction reads are one to it

-- one entry at each key that x reads
abbrev pub Agree : State → State → Tx → Type 0
Agree s t x = (k : ℕ) → k ∈ keys_read x → entry s k ≡ entry t k

agree_self : (s : State) (x : Tx) → Agree s s x
agree_self s x k m = refl

agree_passes : (s t : State) (x : Tx) → Agree s t x → passes (versions s) x ≡ passes (versions t) x
unfolding passes entry
agree_passes s t x h =
    all_same (names (versions s)) (names (versions t)) x.reads (λ r m. ap (λ e. same r.version e.version) (h r.key (read_in_lem x m)))

-- ---- pages that are still to come

module _ (b : ℕ → Tx) where
  -- in a forward order a later one reads nothing that an earlier one writes
  unread :
      (i : ℕ) (os : List ℕ) → T (ordered (before b) (i ∷ os)) → T (distinct (i ∷ os)) →
      (u : ℕ) → u ∈ os → (k : ℕ) → k ∈ keys_read (b u) → T (not (writer (b i) k))
  unfolding ordered
  unread i os f d u m k q =
      not_T (writer (b i) k)
      (λ w. T_not (before b u i)
      (all-out (λ a. not (before b a i)) os (and_left (all (λ a. not (before b a i)) os) _ f) m)
      ((before-words b u i).1 (λ e. differ i u (apart i os d m) (sym e), (k, w, (reads-key (b u) k).1 q))))

  -- what holds of os, still to come, at the state s: each of them was current at the start, and reads what it read there
  pub record Passing (start s : State) (os : List ℕ) : Type 0 where
    pub forward : T (ordered (before b) os)
    pub once : T (distinct os)
    pub current : (i : ℕ) → i ∈ os → T (passes (versions start) (b i))
    pub agree : (i : ℕ) → i ∈ os → Agree s start (b i)

  pub passing : (s : State) (os : List ℕ) → T (ordered (before b) os) → T (distinct os) → ((i : ℕ) → i ∈ os → T (passes (versions s) (b i))) → Passing s s os
  passing s os f d h = record { forward = f; once = d; current = h; agree = λ i m. agree_self s (b i) }

  module _ (n : ℕ) (start : State) where
    pub passing_next : (p : ℕ) (s : State) (i : ℕ) (os : List ℕ) → Passing start s (i ∷ os) → Passing start (write (stamp n p) s (b i).writes) os
    unfolding ordered
    passing_next p s i os z = record {
      forward = and_right (all (λ a. not (before b a i)) os) _ z.forward;
      once = rest i os z.once;
      current = λ u m. z.current u (Memᴰ.tail m);
      agree = λ u m k q.
          write-other (stamp n p) s (b i).writes k (no_write_lem (b i) k (unread i os z.forward z.once u m k q))
          ∙ z.agree u (Memᴰ.tail m) k q;
    }

    pub now_passes : (s : State) (i : ℕ) (os : List ℕ) → Passing start s (i ∷ os) → passes (versions s) (b i) ≡ true
    now_passes s i os z = agree_passes s start (b i) (z.agree i (Memᴰ.head refl)) ∙ is_true _ (z.current i (Memᴰ.head refl))

    pub after-writes : (p : ℕ) (s : State) (i : ℕ) (os : List ℕ) → Passing start s (i ∷ os) → after_page n p s (b i) ≡ write (stamp n p) s (b i).writes
    unfolding after_page
    after-writes p s i os z = rw (now_passes s i os z)

    pub commit-applied : (p : ℕ) (s : State) (os : List ℕ) → Passing start s os → commit n p s (map b os) ≡ applied n p s (map b os)
    unfolding commit applied
    commit-applied p s [] z = refl
    commit-applied p s (i ∷ os) z =
        ap (λ x. commit n (suc p) x (map b os)) (after-writes p s i os z) ∙ commit-applied (suc p) (write (stamp n p) s (b i).writes) os (passing_next p s i os z)
