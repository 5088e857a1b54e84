-- A page in its place in a batch. Assumes nothing.
use mathlib.Core.Path.{◌≡◌, ap, ◌∙◌}
use mathlib.Core.List.{List, ◌++◌, append_assoc}
use Prim.Native.Nat.{ℕ, ◌+◌, ◌-◌, ◌*◌, ◌≤◌, ◌<◌}
use native.Mathlib.Nat.{add-sub_cancel_left}
use native.Mathlib.Omega.{arith}
use lib.ListN.{length, get_or, take, drop, length-append, length-take, length-drop, get_or-append}
use lib.Seq.{drop-drop, drop_at, take_at, length-take-le, get_or-take, get_or-drop, get_or-append-add}
use Rattle.ledger.specs.Page.{page_at, with_page}

-- the part of the batch that is lent on, and the whole when it has come back
pub part_long : (b : List ℕ) (a : ℕ) → a + 512 ≤ length b → length (take (a + 512 - a) (drop a b)) ≡ 512
part_long b a h = simp (length-take, length-drop) (omega arith)

pub part_back : (b ys : List ℕ) (a : ℕ) → take a b ++ (ys ++ drop (a + 512 - a) (drop a b)) ≡ take a b ++ (ys ++ drop (a + 512) b)
part_back b ys a = rw (add-sub_cancel_left a 512, drop-drop 512 a b)

-- ---- "every byte of the batch outside that page stays"

-- past a front that was put in the place of another of its length
get_d_past : (a b : List ℕ) (m k : ℕ) → length a ≡ m → m ≤ k → get_or (a ++ drop m b) k 0 ≡ get_or b k 0
get_d_past a b m k e h =
    let f : k ≡ length a + (k - m) = omega arith in
    let g : m + (k - m) ≡ k = omega arith in
    ap (λ n. get_or (a ++ drop m b) n 0) f
    ∙ get_or-append-add a (drop m b) (k - m) 0
    ∙ get_or-drop m b (k - m) 0
    ∙ ap (λ n. get_or b n 0) g

module _ (batch page : List ℕ) (i : ℕ) (long : length page ≡ 512) (inside : i * 512 + 512 ≤ length batch) where
  before : length (take (i * 512) batch) ≡ i * 512
  before = length-take-le (i * 512) batch (omega arith)

  pub placed_here : page_at (with_page batch i page) i ≡ page
  placed_here =
      rw (drop_at (take (i * 512) batch) (page ++ drop (i * 512 + 512) batch) (i * 512) before)
      (take_at page (drop (i * 512 + 512) batch) 512 long)

  pub placed_long : length (with_page batch i page) ≡ length batch
  placed_long = simp (length-append, length-drop, before, long) (omega arith)

  pub placed_before : (k : ℕ) → k < i * 512 → get_or (with_page batch i page) k 0 ≡ get_or batch k 0
  placed_before k h =
      get_or-append (take (i * 512) batch) (page ++ drop (i * 512 + 512) batch) 0 k (rw before h) ∙ get_or-take (i * 512) batch k 0 h

  pub placed_after : (k : ℕ) → i * 512 + 512 ≤ k → get_or (with_page batch i page) k 0 ≡ get_or batch k 0
  placed_after k h =
      rw (← append_assoc (take (i * 512) batch) page (drop (i * 512 + 512) batch))
      (get_d_past (take (i * 512) batch ++ page) batch (i * 512 + 512) k (simp (length-append, before, long)) h)
