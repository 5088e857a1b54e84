-- Readers of a key and blockers of a rank, page after page: what is known at each turn, and why they end as document 01's demand. Assumes nothing.
use mathlib.Core.Path.{◌≡◌, refl, sym, ap, ap₂, ◌∙◌}
use mathlib.Core.Bool.{Bool, true, false, not, ◌&&◌, ◌||◌}
use mathlib.Core.List.{List}
use Prim.Native.Nat.{ℕ, ◌+◌, ◌≤◌, ◌<◌}
use native.Mathlib.Omega.{arith}
use borrow.Author.Tests.{lt-ltb, le-ltb, eq-eqb, ne_eqb, eqb-true, eqb-false}
use lib.Dec.{eqb, ltb, ltb→lt, lt→ltb}
use lib.ListN.{length, get_or, take, set, replicate, length-set, get_or-replicate}
use lib.Seq.{take_all, get_or-set_same, get_or-set_other}
use Rattle.lists.specs.Members.{◌∈◌, any}
use Rattle.lists.proofs.Membership.{in_at, any_same, any-map, any_next, map-out}
use Rattle.lists.proofs.Tests.{same_test, or-false}
use Rattle.sets.specs.Set.{member}
use Rattle.sets.proofs.Laws.{none}
use Rattle.ledger.specs.declared.Read.{Read}
use Rattle.ledger.specs.declared.Write.{Write}
use Rattle.ledger.specs.Tx.{Tx, keys_read, keys_written, reader, no_write, read_of, write_of}
use Rattle.refusals.specs.Fault.{clear}
use Rattle.ledger.specs.Page.{page_at, page_tx, page_fault}
use Rattle.ledger.specs.Gate.{tx_at}
use Rattle.ledger.proofs.Rising.{read-keys, write-keys}
use Rattle.planner.specs.Ranks.{demands, nth, Ranked}
use Rattle.planning.specs.Plan.{before}

-- ---- tests

and_turned : (a b : Bool) → (a && b) ≡ (b && a)
and_turned true true = refl
and_turned true false = refl
and_turned false true = refl
and_turned false false = refl

-- a test of those below r, and of r
pub below_next : (p : ℕ → Bool) (j r : ℕ) → ((ltb j r && p j) || (eqb r j && p r)) ≡ (ltb j (r + 1) && p j)
below_next p j r = go (eqb r j) refl
  where
    go : (b : Bool) → eqb r j ≡ b → ((ltb j r && p j) || (b && p r)) ≡ (ltb j (r + 1) && p j)
    go true e =
        let same = eqb-true r j e in
        rw (le-ltb j r (omega arith), lt-ltb j (r + 1) (omega arith)) (ap p same)
    go false e =
        let other = eqb-false r j e in
        let level : ltb j r ≡ ltb j (r + 1) = same_test (ltb j r) (ltb j (r + 1)) (λ t. lt→ltb j (r + 1) (omega (arith, ltb→lt j r t))) (λ t. lt→ltb j r (omega (arith, ltb→lt j (r + 1) t))) in
        rw level (or-false (ltb j (r + 1) && p j))

-- the keys of a good page are below 1024
module _ (p : List ℕ) (good : page_fault p ≡ clear) where
  pub read_small : (i : ℕ) (x : Read) → x ≡ read_of (page_tx p).reads i → i < length (page_tx p).reads → x.key < 1024
  read_small i x e h = let low = (read-keys p good).small i h in rw e (omega arith)

  pub write-small : (i : ℕ) (x : Write) → x ≡ write_of (page_tx p).writes i → i < length (page_tx p).writes → x.key < 1024
  write-small i x e h = let low = (write-keys p good).small i h in rw e (omega arith)

-- ---- the reads of a page put into the sets of readers

pub record Marking (xs : List Read) (rank : ℕ) (old new : List ℕ) (i : ℕ) : Type 0 where
  pub long : length new ≡ length old
  pub marks :
      (k j : ℕ) → k < 1024 →
      member (get_or new k 0) j ≡ (member (get_or old k 0) j || (eqb rank j && any (λ r. eqb k r.key) (take i xs)))

-- all reads of a page
pub marking_ends :
    (x : Tx) (rank : ℕ) (old new : List ℕ) (i : ℕ) → Marking x.reads rank old new i → length x.reads ≤ i → (k j : ℕ) → k < 1024 →
    member (get_or new k 0) j ≡ (member (get_or old k 0) j || (eqb rank j && reader x k))
unfolding reader keys_read
marking_ends x rank old new i inv l k j h =
    inv.marks k j h
    ∙ ap (λ a. member (get_or old k 0) j || (eqb rank j && a))
    (ap (any (λ r. eqb k r.key)) (take_all i x.reads l) ∙ sym (any-map (λ r. r.key) (eqb k) x.reads))

-- ---- the ranks that read each key, page after page

pub record Reading (batch pages readers : List ℕ) (r : ℕ) : Type 0 where
  pub long : length readers ≡ 1024
  pub marks : (k j : ℕ) → k < 1024 → member (get_or readers k 0) j ≡ (ltb j r && reader (tx_at batch (nth pages j)) k)

module _ (batch pages : List ℕ) where
  pub reading_begins : Reading batch pages (replicate 1024 0) 0
  reading_begins = record {
    long = refl;
    marks = λ k j h. ap (λ n. member n j) (get_or-replicate 1024 k 0 0 h) ∙ none j ∙ sym (ap (λ b. b && reader (tx_at batch (nth pages j)) k) (le-ltb j 0 (omega arith)));
  }

-- ---- those that must stand before a rank

-- the readers of the keys that the first writes name
abbrev pub Written : List ℕ → List Write → ℕ → ℕ → Type 0
Written readers ws i set = (j : ℕ) → member set j ≡ any (λ w. member (get_or readers w.key 0) j) (take i ws)

-- the readers of the keys that a transaction writes, without a rank
abbrev pub Blocked : List ℕ → Tx → ℕ → ℕ → Type 0
Blocked readers x s set =
    (j : ℕ) → member set j ≡ (any (λ k. member (get_or readers k 0) j) (keys_written x) && not (eqb s j))

pub written_more :
    (readers : List ℕ) (ws : List Write) (i set new v : ℕ) (w : Write) → Written readers ws i set → i < length ws → w ≡ write_of ws i →
    v ≡ get_or readers w.key 0 → ((j : ℕ) → member new j ≡ (member set j || member v j)) → Written readers ws (i + 1) new
written_more readers ws i set new v w inv h here got more j =
    more j
    ∙ ap₂ (λ a b. a || b) (inv j) (ap (λ (n : ℕ). member n j) (got ∙ ap (λ x. get_or readers x.key 0) here))
    ∙ sym (any_next (λ x. member (get_or readers x.key 0) j) ws i no_write h)

pub written_all :
    (readers : List ℕ) (x : Tx) (i set new s : ℕ) → Written readers x.writes i set → length x.writes ≤ i →
    ((j : ℕ) → member new j ≡ (member set j && not (eqb s j))) → Blocked readers x s new
unfolding keys_written
written_all readers x i set new s inv l w j =
    w j
    ∙ ap (λ b. b && not (eqb s j))
    (inv j
    ∙ ap (any (λ y. member (get_or readers y.key 0) j)) (take_all i x.writes l)
    ∙ sym (any-map (λ y. y.key) (λ k. member (get_or readers k 0) j) x.writes))

pub record Blocking (batch pages readers blockers : List ℕ) (r : ℕ) : Type 0 where
  pub long : length blockers ≡ 64
  pub blocks : (s : ℕ) → s < r → Blocked readers (tx_at batch (nth pages s)) s (get_or blockers s 0)

module _ (batch pages readers : List ℕ) where
  pub blocking_turns :
      (blockers p : List ℕ) (r v : ℕ) → Blocking batch pages readers blockers r → r < 64 → p ≡ page_at batch (nth pages r) →
      Blocked readers (page_tx p) r v →
      Blocking batch pages readers (set blockers r v) (r + 1)
  blocking_turns blockers p r v inv h is w = record {
    long = length-set blockers r v ∙ inv.long;
    blocks = λ s l. go s l (eqb s r) refl;
  }
    where
      here : Blocked readers (tx_at batch (nth pages r)) r v
      here = rw is at w

      go :
          (s : ℕ) → s < r + 1 → (b : Bool) → eqb s r ≡ b →
          Blocked readers (tx_at batch (nth pages s)) s (get_or (set blockers r v) s 0)
      go s l true e = rw (eqb-true s r e, get_or-set_same blockers r v 0 (omega (arith, inv.long))) here
      go s l false e = let other = eqb-false s r e in rw (get_or-set_other blockers r s v 0 other) (inv.blocks s (omega arith))

-- the sets are document 01's demand
pub blocking_ends :
    (batch pages readers blockers : List ℕ) (count : ℕ) → Ranked batch pages count → Blocking batch pages readers blockers count →
    ((k j : ℕ) → k < 1024 → member (get_or readers k 0) j ≡ (ltb j count && reader (tx_at batch (nth pages j)) k)) →
    (r s : ℕ) → r < count → s < count → demands blockers r s ≡ before (tx_at batch) (nth pages r) (nth pages s)
unfolding before keys_written
blocking_ends batch pages readers blockers count ranked inv marks r s h l =
    inv.blocks s l r
    ∙ and_turned (any (λ k. member (get_or readers k 0) r) (keys_written (tx_at batch (nth pages s)))) (not (eqb s r))
    ∙ ap₂ (λ a b. not a && b) apart
    (any_same (λ k. member (get_or readers k 0) r) (reader (tx_at batch (nth pages r)))
    (keys_written (tx_at batch (nth pages s))) (λ k m. reads k (small k m)))
  where
    small : (k : ℕ) → k ∈ keys_written (tx_at batch (nth pages s)) → k < 1024
    small k m =
        let ws = (tx_at batch (nth pages s)).writes in
        let w = map-out (λ v. v.key) ws m in
        let at = in_at ws no_write w.1 in
        rw w.2 (write-small (page_at batch (nth pages s)) (ranked.good s l) at.0 w.0 at.2 at.1)

    reads : (k : ℕ) → k < 1024 → member (get_or readers k 0) r ≡ reader (tx_at batch (nth pages r)) k
    reads k b = marks k r b ∙ rw (lt-ltb r count h)

    apart : eqb s r ≡ eqb (nth pages r) (nth pages s)
    apart = go (eqb s r) refl
      where
        go : (b : Bool) → eqb s r ≡ b → b ≡ eqb (nth pages r) (nth pages s)
        go true e = sym (eq-eqb (nth pages r) (nth pages s) (ap (nth pages) (sym (eqb-true s r e))))
        go false e = sym (ne_eqb (nth pages r) (nth pages s) (λ q. eqb-false s r e (sym (ranked.different r s h l q))))
