-- The keys of a good page rise, so that its last keys tell whether it has one that is too high. Assumes nothing.
use mathlib.Core.Path.{◌≡◌, refl, sym, ap, ap₂, ◌∙◌}
use mathlib.Core.Bool.{Bool, true, false, not, ◌||◌}
use mathlib.Core.Logic.{⊎_elim}
use mathlib.Core.List.{List}
use Prim.Native.Nat.{ℕ, zero, suc, ◌-◌, ◌≤◌, ◌<◌}
use native.Mathlib.Nat.{eq-or-lt_of_le, le_of_suc-le-suc}
use native.Mathlib.Omega.{arith}
use lib.ListN.{length}
use lib.Dec.{ltb, leb}
use Rattle.std.proofs.lemmas.Bool.{leb-false}
use borrow.Author.Tests.{leb-true, ltb-true, ltb-false, lt-ltb, le-ltb, not-false}
use Rattle.lists.specs.Search.{some_in}
use Rattle.lists.proofs.Searches.{missed, none_at, some_at, any_search}
use Rattle.ledger.specs.Tx.{Tx, no_read, no_write, read_of, write_of, floor_of, out_of_turn, wrong_kind}
use Rattle.refusals.specs.Fault.{clear, first}
use Rattle.refusals.proofs.Rows.{row_none}
use Rattle.ledger.specs.Page.{entry_rows, page_fault, page_tx}
use Rattle.ledger.specs.Gate.{beyond}
use Rattle.ledger.proofs.Faults.{or_none, sound}

-- ---- keys of which none is out of turn

pub record Rising (key : ℕ → ℕ) (n : ℕ) : Type 0 where
  pub rises : (i j : ℕ) → i < j → j < n → key i < key j
  pub small : (i : ℕ) → i < n → key i ≤ 1023

-- keys of which none is below the least that may stand there rise
pub rise : (key : ℕ → ℕ) (n : ℕ) → ((i : ℕ) → i < n → floor_of key i ≤ key i) → (i j : ℕ) → i < j → j < n → key i < key j
unfolding floor_of
rise key n floors i zero l h = absurd (omega arith)
rise key n floors i (suc j) l h =
    let f = floors (suc j) h in
    ⊎_elim
    (λ e. rw e (omega arith))
    (λ m. let below = rise key n floors i j m (omega arith) in omega arith)
    (eq-or-lt_of_le (le_of_suc-le-suc l))

module _ (key : ℕ → ℕ) (n : ℕ) (none : some_in (out_of_turn key) 0 n ≡ false) where
  in_turn_at : (i : ℕ) → i < n → (floor_of key i ≤ key i) × (key i ≤ 1023)
  in_turn_at i h =
      let e = or_none (ltb (key i) (floor_of key i)) (ltb 1023 (key i)) (missed (out_of_turn key) n none i h) in
      (ltb-false (key i) (floor_of key i) e.0, ltb-false 1023 (key i) e.1)

  pub rising : Rising key n
  rising = record { rises = rise key n (λ i h. (in_turn_at i h).0); small = λ i h. (in_turn_at i h).1 }

-- the last of such keys is the highest: m is their count, and x is the last
module _ (key : ℕ → ℕ) (n k : ℕ) (r : Rising key n) (m x : ℕ) (count : m ≡ n) (last : x ≡ key (m - 1)) where
  pub last-beyond : 0 < m → k ≤ x → some_in (λ i. not (ltb (key i) k)) 0 n ≡ true
  last-beyond h l = some_at (λ i. not (ltb (key i) k)) n (m - 1) (omega arith) (ap not (le-ltb (key (m - 1)) k (omega arith)))

  below_last : x < k → (i : ℕ) → i < n → key i < k
  below_last l i h =
      ⊎_elim
      (λ e. let f : key i ≡ key (m - 1) = ap key (omega arith) in omega arith)
      (λ w. omega (arith, r.rises i (m - 1) (omega arith) (omega arith)))
      (eq-or-lt_of_le h)

  pub last_within : x < k → some_in (λ i. not (ltb (key i) k)) 0 n ≡ false
  last_within l = none_at (λ i. not (ltb (key i) k)) n (λ i h. ap not (lt-ltb (key i) k (below_last l i h)))

  -- so the test of the last one tells
  pub last_tells : 0 < m → some_in (λ i. not (ltb (key i) k)) 0 n ≡ leb k x
  last_tells h = go (leb k x) refl
    where
      go : (b : Bool) → leb k x ≡ b → some_in (λ i. not (ltb (key i) k)) 0 n ≡ leb k x
      go true e = last-beyond h (leb-true k x e) ∙ sym e
      go false e = last_within (leb-false k x e) ∙ sym e

-- no key is too high where there is none
pub none_within : (key : ℕ → ℕ) (n k m : ℕ) → m ≡ n → m ≤ 0 → some_in (λ i. not (ltb (key i) k)) 0 n ≡ false
none_within key n k m count h = none_at (λ i. not (ltb (key i) k)) n (λ i l. absurd (omega arith))

-- ---- the keys of a good page

abbrev pub read_key : Tx → ℕ → ℕ
read_key x i = (read_of x.reads i).key

abbrev pub write_key : Tx → ℕ → ℕ
write_key x i = (write_of x.writes i).key

pub record Entered (x : Tx) : Type 0 where
  pub no_six : some_in (out_of_turn (read_key x)) 0 (length x.reads) ≡ false
  pub no_eight : some_in (out_of_turn (write_key x)) 0 (length x.writes) ≡ false
  pub no_nine : some_in (λ i. wrong_kind (write_of x.writes i)) 0 (length x.writes) ≡ false

pub entered : (x : Tx) → first (entry_rows x) ≡ clear → Entered x
unfolding entry_rows
entered x e =
    let a = row_none _ _ e in
    let b = row_none _ _ a.1 in
    let c = row_none _ _ b.1 in
    record { no_six = a.0; no_eight = c.0; no_nine = (row_none _ _ c.1).0 }

module _ (p : List ℕ) (good : page_fault p ≡ clear) where
  pub read-keys : Rising (read_key (page_tx p)) (length (page_tx p).reads)
  read-keys = rising _ _ (entered _ (sound p good).entries).no_six

  pub write-keys : Rising (write_key (page_tx p)) (length (page_tx p).writes)
  write-keys = rising _ _ (entered _ (sound p good).entries).no_eight

  -- and the kinds of its writes are right
  pub write_kinds_lem : (i : ℕ) → i < length (page_tx p).writes → wrong_kind (write_of (page_tx p).writes i) ≡ false
  write_kinds_lem = missed (λ i. wrong_kind (write_of (page_tx p).writes i)) _ (entered _ (sound p good).entries).no_nine

-- ---- keys that are not below k

module _ (k : ℕ) (x : Tx) where
  abbrev pub reads_beyond : Bool
  reads_beyond = some_in (λ i. not (ltb (read_key x i) k)) 0 (length x.reads)

  abbrev pub writes_beyond : Bool
  writes_beyond = some_in (λ i. not (ltb (write_key x i) k)) 0 (length x.writes)

  pub beyond_is : beyond k x ≡ (reads_beyond || writes_beyond)
  beyond_is =
      ap₂ (λ a b. a || b)
      (any_search (λ r. not (ltb r.key k)) no_read x.reads)
      (any_search (λ w. not (ltb w.key k)) no_write x.writes)

  pub by-reads : reads_beyond ≡ true → true ≡ beyond k x
  by-reads e = sym (beyond_is ∙ rw e)

  pub by-writes : {b : Bool} → reads_beyond ≡ false → writes_beyond ≡ b → b ≡ beyond k x
  by-writes e f = sym (beyond_is ∙ rw (e, f))

-- each key is below k
pub record Below (k : ℕ) (x : Tx) : Type 0 where
  pub reads : (i : ℕ) → i < length x.reads → read_key x i < k
  pub writes : (i : ℕ) → i < length x.writes → write_key x i < k

pub below : (k : ℕ) (x : Tx) → beyond k x ≡ false → Below k x
below k x e =
    let f = or_none (reads_beyond k x) (writes_beyond k x) (sym (beyond_is k x) ∙ e) in
    let under : (key : ℕ → ℕ) (n : ℕ) → some_in (λ i. not (ltb (key i) k)) 0 n ≡ false → (i : ℕ) → i < n → key i < k =
    λ key n g i h. ltb-true (key i) k (not-false (ltb (key i) k) (missed (λ j. not (ltb (key j) k)) n g i h)) in
    record { reads = under (read_key x) _ f.0; writes = under (write_key x) _ f.1 }
