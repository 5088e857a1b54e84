-- Pages of a batch gathered into a batch of their own: its bytes, its pages, its transactions, and that the gate lets it through. Assumes nothing.
use Prim.Native.Nat.{ℕ, zero, suc, ◌+◌, ◌*◌, ◌≤◌, ◌<◌}
use native.Mathlib.Decide.{dec_lt}
use native.Mathlib.Omega.{arith}
use mathlib.Core.Bool.{false}
use mathlib.Core.List.Memᴰ
use mathlib.Core.List.{List, [], ◌∷◌, ◌++◌, map, map-append}
use mathlib.Core.Path.{◌≡◌, refl, sym, ap, ◌∙◌}
use lib.ListN.{length, get_or, take, drop, length-append}
use lib.Seq.{take_at, drop-append-add}
use lib.Dec.{T, eqb, ltb}
use borrow.Author.Tests.{le-ltb, ne_eqb}
use Rattle.lists.specs.Members.{◌∈◌, distinct}
use Rattle.lists.proofs.Membership.{get_or_in, distinct-at}
use Rattle.lists.proofs.Searches.{none_at}
use Rattle.refusals.specs.Fault.{clear, first, Row}
use Rattle.refusals.proofs.Rows.{one-clear, each-clear, test_clear}
use Rattle.lists.specs.Tables.{tab}
use Rattle.ledger.specs.Page.{page_tx, page_fault, page_at}
use Rattle.ledger.specs.State.{State, keys}
use Rattle.ledger.specs.Gate.{pages, tx_at, txs, rows_at, again, beyond, lent_row, pages_rows}
use Rattle.ledger.specs.Commit.{commit_rows}
use Rattle.lists.proofs.Tables.{tab-same, tab_list}
use Rattle.ledger.proofs.Gated.{page_long, good-at, pages-rest, front_clear, front_good, gate_pages, open_front, not_wrong, Through, gate_fault}
use Rattle.planning.specs.Plan.{gathered}

-- ---- lists

-- a table of a list's elements is the list relabelled
map-tab : {X Y : Type 0} (f : X → Y) (g : ℕ → X) (n : ℕ) → map f (tab n g) ≡ tab n (λ i. f (g i))
unfolding tab
map-tab f g zero = refl
map-tab f g (suc n) = map-append f (tab n g) (g n ∷ []) ∙ ap (λ l. l ++ (f (g n) ∷ [])) (map-tab f g n)

pub tab-map : {X : Type 0} (f : ℕ → X) (is : List ℕ) → tab (length is) (λ j. f (get_or is j 0)) ≡ map f is
tab-map f is = sym (map-tab f (λ j. get_or is j 0) (length is)) ∙ ap (map f) (tab_list is 0)

-- ---- pages gathered

-- as many bytes as pages of 512
pub gathered_long :
    (batch is : List ℕ) → ((i : ℕ) → i ∈ is → i * 512 + 512 ≤ length batch) → length (gathered batch is) ≡ length is * 512
unfolding gathered
gathered_long batch [] f = refl
gathered_long batch (i ∷ is) f =
    let a = page_long batch i (f i (Memᴰ.head refl)) in
    let b = gathered_long batch is (λ j m. f j (Memᴰ.tail m)) in
    length-append (page_at batch i) (gathered batch is) ∙ omega arith

-- a page in front of others, and those behind it
pub page-first : (p rest : List ℕ) → length p ≡ 512 → page_at (p ++ rest) 0 ≡ p
page-first p rest l = take_at p rest 512 l

pub page-next : (p rest : List ℕ) (j : ℕ) → length p ≡ 512 → page_at (p ++ rest) (suc j) ≡ page_at rest j
page-next p rest j l =
    let e : suc j * 512 ≡ length p + j * 512 = omega arith in
    ap (λ k. take 512 (drop k (p ++ rest))) e ∙ ap (take 512) (drop-append-add p rest (j * 512))

module _ (batch : List ℕ) (m : ℕ) (whole : length batch ≡ m * 512) where
  page-whole : (i : ℕ) → i < m → length (page_at batch i) ≡ 512
  page-whole i h = page_long batch i (omega arith)

  pub gathered-whole : (is : List ℕ) → ((i : ℕ) → i ∈ is → i < m) → length (gathered batch is) ≡ length is * 512
  gathered-whole is f = gathered_long batch is (λ i k. omega (arith, f i k))

  -- the front of an out batch that was filled with them
  pub out_front : (is : List ℕ) → ((i : ℕ) → i ∈ is → i < m) → (out : List ℕ)
      → take (512 * length is) (gathered batch is ++ drop (512 * length is) out) ≡ gathered batch is
  out_front is f out =
      take_at (gathered batch is) (drop (512 * length is) out) (512 * length is) (omega (arith, gathered-whole is f))

  pub gathered-page : (is : List ℕ) → ((i : ℕ) → i ∈ is → i < m) → (j : ℕ) → j < length is → page_at (gathered batch is) j ≡ page_at batch (get_or is j 0)
  unfolding gathered
  gathered-page [] f j h = absurd (omega arith)
  gathered-page (i ∷ is) f zero h =
      page-first (page_at batch i) (gathered batch is) (page-whole i (f i (Memᴰ.head refl)))
  gathered-page (i ∷ is) f (suc j) h =
      page-next (page_at batch i) (gathered batch is) j (page-whole i (f i (Memᴰ.head refl)))
      ∙ gathered-page is (λ x k. f x (Memᴰ.tail k)) j (omega arith)

  pub gathered-pages : (is : List ℕ) → ((i : ℕ) → i ∈ is → i < m) → pages (gathered batch is) ≡ length is
  gathered-pages is f = let e = gathered-whole is f in omega arith

  pub gathered-txs : (is : List ℕ) → ((i : ℕ) → i ∈ is → i < m) → txs (gathered batch is) ≡ map (tx_at batch) is
  unfolding txs
  gathered-txs is f =
      ap (λ k. tab k (tx_at (gathered batch is))) (gathered-pages is f)
      ∙ tab-same (tx_at (gathered batch is)) (λ j. tx_at batch (get_or is j 0)) (length is) (λ j h. ap page_tx (gathered-page is f j h))
      ∙ tab-map (tx_at batch) is

-- ---- pages of a batch that the gate let through

module _ (own : List Row) (batch : List ℕ) (s : State) (n : ℕ) (c : gate_fault own batch s n ≡ clear) (t : Through batch s n)
    (is : List ℕ) (once : T (distinct is)) (inside : (i : ℕ) → i ∈ is → i < pages batch) where
  page_is : (j : ℕ) → j < length is → page_at (gathered batch is) j ≡ page_at batch (get_or is j 0)
  page_is = gathered-page batch (pages batch) t.ready.whole is inside

  inside-at : (j : ℕ) → j < length is → get_or is j 0 < pages batch
  inside-at j h = inside (get_or is j 0) (get_or_in is j 0 h)

  -- no ticket is there twice
  no_ticket : (x y : ℕ) → x < pages batch → y < pages batch → (x ≡ y → ⊥) → (tx_at batch x).ticket ≡ (tx_at batch y).ticket → ⊥
  no_ticket x y h l f e =
      elim (dec_lt x y) [
        | yes a ↦ t.differ y x a l e
        | no a ↦ elim (dec_lt y x) [ yes b ↦ t.differ x y b h (sym e) | no b ↦ f (omega arith) ]
      ]

  none_again : (i : ℕ) → i < length is → again (gathered batch is) i ≡ false
  none_again i h =
      none_at (λ j. eqb (tx_at (gathered batch is) j).ticket (tx_at (gathered batch is) i).ticket) i
      (λ j l. ne_eqb (tx_at (gathered batch is) j).ticket (tx_at (gathered batch is) i).ticket
      (λ e. no_ticket (get_or is j 0) (get_or is i 0) (inside-at j (omega arith)) (inside-at i h) (distinct-at is once j i l h)
      (ap (λ p. (page_tx p).ticket) (sym (page_is j (omega arith))) ∙ e ∙ ap (λ p. (page_tx p).ticket) (page_is i h))))

  pages-clear : first (pages_rows (gathered batch is) (keys s)) ≡ clear
  pages-clear =
      let m = gathered-pages batch (pages batch) t.ready.whole is inside in
      pages-rest (gathered batch is) (keys s)
      (each-clear (rows_at (gathered batch is)) (pages (gathered batch is))
      (λ i h. good-at (gathered batch is) i (ap page_fault (page_is i (rw m at h)) ∙ (t.ready.each (get_or is i 0) (inside-at i (rw m at h))).good)))
      (test_clear 15 (pages (gathered batch is)) (again (gathered batch is)) (λ i h. none_again i (rw m at h)))
      ∙ test_clear 16 (pages (gathered batch is)) (λ i. beyond (keys s) (tx_at (gathered batch is) i))
      (λ i h. ap (λ p. beyond (keys s) (page_tx p)) (page_is i (rw m at h)) ∙ (t.ready.each (get_or is i 0) (inside-at i (rw m at h))).within)

  -- the gate lets them through, with verdicts enough for 14
  pub gathered_open : (vs : List ℕ) → length is ≤ 64 → length is ≤ length vs → first (commit_rows (gathered batch is) s n vs) ≡ clear
  gathered_open vs few long =
      let l = gathered-whole batch (pages batch) t.ready.whole is inside in
      let m = gathered-pages batch (pages batch) t.ready.whole is inside in
      let g = open_front own batch s n c in
      gate_pages (lent_row (ltb (length vs) (pages (gathered batch is))) ∷ []) (gathered batch is) s n
      (front_clear (gathered batch is) s n (not_wrong (gathered batch is) (omega arith) (omega arith)) (front_good batch s n g))
      (one-clear 14 0 _ (le-ltb (length vs) (pages (gathered batch is)) (omega arith)))
      ∙ pages-clear
