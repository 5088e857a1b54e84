-- A batch that is walked page by page: what is left of it before each. Assumes nothing.
use mathlib.Core.Path.{◌≡◌, sym, ap, ◌∙◌}
use mathlib.Core.List.{List, ◌++◌}
use Prim.Native.Nat.{ℕ, ◌+◌, ◌*◌, ◌≤◌, ◌<◌}
use native.Mathlib.Omega.{arith}
use lib.ListN.{length, take, drop, length-append, length-drop}
use lib.Seq.{drop-drop, take-append_seam, drop-append_seam}
use Rattle.ledger.specs.Gate.{pages}
use Rattle.ledger.specs.Page.{page_at}

-- before page i, in pieces of `size` bytes, `left` is still to come
pub record Walking (batch : List ℕ) (size : ℕ) (left : List ℕ) (i : ℕ) : Type 0 where
  pub by_pages : size ≡ 512
  pub behind : left ≡ drop (i * 512) batch
  pub within : i ≤ pages batch

pub walking_begins : {batch left : List ℕ} {size : ℕ} → size ≡ 512 → left ≡ batch → Walking batch size left 0
walking_begins s l = record { by_pages = s; behind = l; within = omega arith }

-- a piece that comes is page i, and what is left behind it begins with the next
pub record Walked (batch piece : List ℕ) (size : ℕ) (left : List ℕ) (i : ℕ) : Type 0 where
  pub is_page : piece ≡ page_at batch i
  pub long : length piece ≡ 512
  pub room : i * 512 + 512 ≤ length batch
  pub within : i < pages batch
  pub walking : Walking batch size left (i + 1)

pub walked :
    {batch left piece next : List ℕ} {size more i : ℕ} {R : Type 0} → Walking batch size left i →
    (more ≡ size) × ((left ≡ piece ++ next) × (length piece ≡ size)) × R → Walked batch piece more next i
walked {batch} {left} {piece} {next} {i = i} w cut =
    let long : length piece ≡ 512 = cut.1.1 ∙ w.by_pages in
    let is : piece ++ next ≡ drop (i * 512) batch = sym cut.1.0 ∙ w.behind in
    let room : i * 512 + 512 ≤ length batch = omega (arith, long, ap length is, length-append piece next, length-drop (i * 512) batch) in
    record {
      is_page = sym (take-append_seam piece next) ∙ ap (λ n. take n (piece ++ next)) long ∙ ap (take 512) is;
      long = long;
      room = room;
      within = omega (arith, room);
      walking = record {
        by_pages = cut.0 ∙ w.by_pages;
        behind =
            sym (drop-append_seam piece next) ∙ ap (λ n. drop n (piece ++ next)) long ∙ ap (drop 512) is
            ∙ drop-drop 512 (i * 512) batch ∙ ap (λ n. drop n batch) (omega arith);
        within = omega (arith, room);
      };
    }

-- where no whole page is left, all were walked
pub walked_all : {batch left : List ℕ} {size i : ℕ} → Walking batch size left i → length left < size → pages batch ≤ i
walked_all {batch} {i = i} w short = omega (arith, w.by_pages, short, ap length w.behind, length-drop (i * 512) batch)
