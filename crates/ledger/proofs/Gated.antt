-- The gate: which refusal it gives, and what it says that there is none. Assumes nothing.
use mathlib.Core.Path.{◌≡◌, sym, ap, ◌∙◌}
use mathlib.Core.Bool.{Bool, true, false, not, ◌||◌, ◌&&◌}
use mathlib.Core.List.{List, [], ◌∷◌, ◌++◌}
use Prim.Native.Nat.{ℕ, ◌+◌, ◌*◌, ◌%◌, ◌≤◌, ◌<◌}
use native.Mathlib.Omega.{arith}
use lib.ListN.{length, length-take, length-drop}
use lib.Dec.{eqb, ltb, leb}
use borrow.Author.Tests.{ltb-true, ltb-false, leb-true, eqb-true, eqb-false, not-false, lt-ltb, le-ltb, eq-eqb, ne_eqb}
use Rattle.lists.proofs.Searches.{missed}
use Rattle.refusals.specs.Fault.{Fault, clear, fault, Row, row, first, in_turn, each_row}
use Rattle.refusals.proofs.Rows.{row_there, row-passed, row_none, append-clear, append-fault, append_none, each_none, one-clear, test_none, first-moved, moved_none, moved_fault}
use Rattle.ledger.specs.Page.{whole_rows, page_fault, page_at}
use Rattle.ledger.specs.State.{State, keys, entry, wrong_entry, wrong_lengths, state_rows}
use Rattle.ledger.specs.Gate.{pages, tx_at, again, beyond, rows_at, pages_rows, bytes_row, front_rows, gate_rows}
use Rattle.ledger.specs.Inner.{Level, Ready, Batch}
use Rattle.ledger.proofs.Faults.{or_none, and_both, by_whole, good-whole}

abbrev pub gate_fault : List Row → List ℕ → State → ℕ → Fault
gate_fault own batch s n = first (gate_rows own batch s n)

-- ---- the rows of a page of a batch

module _ (batch : List ℕ) (i : ℕ) where
  pub good-at : page_fault (page_at batch i) ≡ clear → first (rows_at batch i) ≡ clear
  good-at e = first-moved (λ q. i * 512 + q) (whole_rows (page_at batch i)) ∙ ap (moved_fault (λ q. i * 512 + q)) (good-whole (page_at batch i) e)

  module _ (inside : i * 512 + 512 ≤ length batch) where
    pub page_long : length (page_at batch i) ≡ 512
    page_long = simp (length-take, length-drop) (omega arith)

    pub bad_at : {n q : ℕ} → page_fault (page_at batch i) ≡ fault n q → first (rows_at batch i) ≡ fault n (i * 512 + q)
    bad_at e = first-moved (λ q. i * 512 + q) (whole_rows (page_at batch i)) ∙ ap (moved_fault (λ q. i * 512 + q)) (sym (by_whole (page_at batch i) page_long) ∙ e)

    pub at-good : first (rows_at batch i) ≡ clear → page_fault (page_at batch i) ≡ clear
    at-good e = by_whole (page_at batch i) page_long ∙ moved_none (λ q. i * 512 + q) (whole_rows (page_at batch i)) e

pub all-good : (batch : List ℕ) (m : ℕ) → m * 512 ≤ length batch → first (in_turn m (rows_at batch)) ≡ clear → (i : ℕ) → i < m → page_fault (page_at batch i) ≡ clear
all-good batch m h e i l = at-good batch i (omega arith) (each_none (rows_at batch) m e i l)

-- ---- the table of the pages: 2 to 10, then 15, then 16

module _ (batch : List ℕ) (k : ℕ) where
  abbrev pub own_rows : List Row
  own_rows = in_turn (pages batch) (rows_at batch)

  abbrev pub ticket_rows : List Row
  ticket_rows = each_row 15 (pages batch) (again batch)

  abbrev pub key_rows : List Row
  key_rows = each_row 16 (pages batch) (λ i. beyond k (tx_at batch i))

  pub pages_bad : {n p : ℕ} → first own_rows ≡ fault n p → first (pages_rows batch k) ≡ fault n p
  unfolding pages_rows
  pages_bad e = append-fault own_rows (ticket_rows ++ key_rows) e

  pub pages-again : {n p : ℕ} → first own_rows ≡ clear → first ticket_rows ≡ fault n p → first (pages_rows batch k) ≡ fault n p
  unfolding pages_rows
  pages-again e f = append-clear own_rows (ticket_rows ++ key_rows) e ∙ append-fault ticket_rows key_rows f

  pub pages-rest : first own_rows ≡ clear → first ticket_rows ≡ clear → first (pages_rows batch k) ≡ first key_rows
  unfolding pages_rows
  pages-rest e f = append-clear own_rows (ticket_rows ++ key_rows) e ∙ append-clear ticket_rows key_rows f

-- ---- the table of the front: 11, then 12 and 13

abbrev pub wrong_bytes : List ℕ → Bool
wrong_bytes batch = ltb 32768 (length batch) || not (eqb (length batch % 512) 0)

module _ (batch : List ℕ) where
  pub too_long : 32768 < length batch → wrong_bytes batch ≡ true
  too_long h = rw (lt-ltb 32768 (length batch) h)

  pub too_odd : length batch ≤ 32768 → (length batch % 512 ≡ 0 → ⊥) → wrong_bytes batch ≡ true
  too_odd h f = rw (le-ltb 32768 (length batch) h, ne_eqb (length batch % 512) 0 f)

  pub not_wrong : length batch ≤ 32768 → length batch % 512 ≡ 0 → wrong_bytes batch ≡ false
  not_wrong h e = rw (le-ltb 32768 (length batch) h, eq-eqb (length batch % 512) 0 e)

module _ (s : State) (n : ℕ) where
  abbrev pub entries_rows : List Row
  entries_rows = each_row 13 (keys s) (λ k. wrong_entry n (entry s k))

  pub state_twelve : wrong_lengths s ≡ true → first (state_rows s n) ≡ fault 12 0
  unfolding state_rows
  state_twelve e = row_there _ _ e

  pub state-rest : wrong_lengths s ≡ false → first (state_rows s n) ≡ first entries_rows
  unfolding state_rows
  state-rest e = row-passed _ _ e

module _ (batch : List ℕ) (s : State) (n : ℕ) where
  pub front_bytes : {a b : ℕ} → first (bytes_row batch ∷ []) ≡ fault a b → first (front_rows batch s n) ≡ fault a b
  unfolding front_rows
  front_bytes e = append-fault (bytes_row batch ∷ []) (state_rows s n) e

  pub front_state : first (bytes_row batch ∷ []) ≡ clear → first (front_rows batch s n) ≡ first (state_rows s n)
  unfolding front_rows
  front_state e = append-clear (bytes_row batch ∷ []) (state_rows s n) e

  pub front_clear : wrong_bytes batch ≡ false → first (state_rows s n) ≡ clear → first (front_rows batch s n) ≡ clear
  front_clear e f = front_state (one-clear 11 0 (wrong_bytes batch) e) ∙ f

-- ---- the table of a batch: the front, a service's own rows, the pages

module _ (own : List Row) (batch : List ℕ) (s : State) (n : ℕ) where
  pub gate_front : {a b : ℕ} → first (front_rows batch s n) ≡ fault a b → gate_fault own batch s n ≡ fault a b
  unfolding gate_rows
  gate_front e = append-fault (front_rows batch s n) _ e

  pub gate_own : {a b : ℕ} → first (front_rows batch s n) ≡ clear → first own ≡ fault a b → gate_fault own batch s n ≡ fault a b
  unfolding gate_rows
  gate_own e f = append-clear (front_rows batch s n) _ e ∙ append-fault own _ f

  pub gate_pages : first (front_rows batch s n) ≡ clear → first own ≡ clear → gate_fault own batch s n ≡ first (pages_rows batch (keys s))
  unfolding gate_rows
  gate_pages e f = append-clear (front_rows batch s n) _ e ∙ append-clear own _ f

-- ---- what the gate lets through

-- a batch of whole pages
pub whole : (batch : List ℕ) → wrong_bytes batch ≡ false → (length batch ≡ pages batch * 512) × (pages batch ≤ 64)
whole batch e =
    let f = or_none (ltb 32768 (length batch)) (not (eqb (length batch % 512) 0)) e in
    let few = ltb-false 32768 (length batch) f.0 in
    let even = eqb-true (length batch % 512) 0 (not-false (eqb (length batch % 512) 0) f.1) in
    omega arith

-- three lists of one length, 1 to 1024
pub record Sized (s : State) : Type 0 where
  pub level : Level s
  pub some : 0 < keys s
  pub few : keys s ≤ 1024

pub sized : (s : State) → wrong_lengths s ≡ false → Sized s
sized s e =
    let b = length s.blocks in
    let p = eqb b (length s.places) in
    let v = eqb b (length s.values) in
    let f = and_both (p && v && ltb 0 b) (leb b 1024) (not-false (p && v && ltb 0 b && leb b 1024) e) in
    let g = and_both (p && v) (ltb 0 b) f.0 in
    let h = and_both p v g.0 in
    record {
      level = record { places = sym (eqb-true _ _ h.0); values = sym (eqb-true _ _ h.1) };
      some = ltb-true 0 b g.1;
      few = leb-true b 1024 f.1;
    }

-- pages that are good, with tickets that differ and keys below k
pub record Sorted (k : ℕ) (batch : List ℕ) : Type 0 where
  pub each : (i : ℕ) → i < pages batch → Ready k (page_at batch i)
  pub differ : (i j : ℕ) → j < i → i < pages batch → (tx_at batch j).ticket ≡ (tx_at batch i).ticket → ⊥

pub sorted : (batch : List ℕ) (k : ℕ) → pages batch * 512 ≤ length batch → first (pages_rows batch k) ≡ clear → Sorted k batch
unfolding pages_rows
sorted batch k l e =
    let f = append_none (own_rows batch k) (ticket_rows batch k ++ key_rows batch k) e in
    let g = append_none (ticket_rows batch k) (key_rows batch k) f.1 in
    record {
      each = λ i h. record {
        good = all-good batch (pages batch) l f.0 i h;
        within = test_none 16 (pages batch) (λ j. beyond k (tx_at batch j)) g.1 i h;
      };
      differ = λ i j l h q. eqb-false _ _ (missed (λ u. eqb (tx_at batch u).ticket (tx_at batch i).ticket) i (test_none 15 (pages batch) (again batch) g.0 i h) j l) q;
    }

-- a batch, a state and a number that may be planned and committed
pub record Through (batch : List ℕ) (s : State) (n : ℕ) : Type 0 where
  pub level : Level s
  pub some : 0 < keys s
  pub few : keys s ≤ 1024
  pub ready : Batch (keys s) batch (pages batch)
  pub entries : (k : ℕ) → k < keys s → wrong_entry n (entry s k) ≡ false
  pub differ : (i j : ℕ) → j < i → i < pages batch → (tx_at batch j).ticket ≡ (tx_at batch i).ticket → ⊥

-- what the front says alone
pub front_whole : (batch : List ℕ) (s : State) (n : ℕ) → first (front_rows batch s n) ≡ clear → (length batch ≡ pages batch * 512) × (pages batch ≤ 64)
unfolding front_rows
front_whole batch s n e = whole batch (row_none (bytes_row batch) _ e).0

pub front_sized : (batch : List ℕ) (s : State) (n : ℕ) → first (front_rows batch s n) ≡ clear → Sized s
unfolding front_rows state_rows
front_sized batch s n e = sized s (row_none (row 12 0 (wrong_lengths s)) (entries_rows s n) (row_none (bytes_row batch) _ e).1).0

pub front_good : (batch : List ℕ) (s : State) (n : ℕ) → first (front_rows batch s n) ≡ clear → first (state_rows s n) ≡ clear
unfolding front_rows
front_good batch s n e = (row_none (bytes_row batch) _ e).1

pub through : (batch : List ℕ) (s : State) (n : ℕ) → first (front_rows batch s n) ≡ clear → first (pages_rows batch (keys s)) ≡ clear → Through batch s n
unfolding front_rows state_rows
through batch s n e f =
    let w = front_whole batch s n e in
    let z = front_sized batch s n e in
    let p = sorted batch (keys s) (omega (arith, w.0)) f in
    let c = row_none (row 12 0 (wrong_lengths s)) (entries_rows s n) (row_none (bytes_row batch) _ e).1 in
    record {
      level = z.level;
      some = z.some;
      few = z.few;
      ready = record { whole = w.0; few = w.1; each = p.each };
      entries = test_none 13 (keys s) (λ k. wrong_entry n (entry s k)) c.1;
      differ = p.differ;
    }

module _ (own : List Row) (batch : List ℕ) (s : State) (n : ℕ) (e : gate_fault own batch s n ≡ clear) where
  pub open_front : first (front_rows batch s n) ≡ clear
  unfolding gate_rows
  open_front = (append_none (front_rows batch s n) _ e).0

  pub open_own : first own ≡ clear
  unfolding gate_rows
  open_own = (append_none own _ (append_none (front_rows batch s n) _ e).1).0

  pub gate_open : Through batch s n
  unfolding gate_rows
  gate_open = through batch s n open_front (append_none own _ (append_none (front_rows batch s n) _ e).1).1
