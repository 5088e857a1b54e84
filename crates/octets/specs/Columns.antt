-- Sums over a page by columns: what the functions of page/weight.rt hand to one another. Assumes nothing.
use Rattle.std.specs.Prelude.{◌≡◌, List, ℕ, zero, suc, ◌+◌, ◌*◌, ◌<◌, length, get_or}

-- the sum over the first n columns: a column's sum by its weight in the first row, and 48 times its running sum, where a byte stands once for each row before its own
unfoldable pub by_columns : List ℕ → List ℕ → ℕ → ℕ
by_columns sums runs zero = 0
by_columns sums runs (suc n) = by_columns sums runs n + ((n + 1) * get_or sums n 0 + 48 * get_or runs n 0)

-- each column's sums are of 16 bits
pub record Lanes (sums runs : List ℕ) : Type 0 where
  pub sums_lane : (c : ℕ) → c < 48 → get_or sums c 0 < 65536
  pub runs_lane : (c : ℕ) → c < 48 → get_or runs c 0 < 65536

-- there is room for one row more
pub record Room (row sums runs : List ℕ) : Type 0 where
  pub row_long : length row ≡ 48
  pub sums_long : length sums ≡ 48
  pub runs_long : length runs ≡ 48
  pub sums_fit : (c : ℕ) → c < 48 → get_or sums c 0 + 255 < 65536
  pub runs_fit : (c : ℕ) → c < 48 → get_or runs c 0 + get_or sums c 0 < 65536

-- one row more: each column's running sum takes its sum, and its sum the row's byte
pub record Added (row sums runs sums' runs' : List ℕ) : Type 0 where
  pub sums_long : length sums' ≡ 48
  pub runs_long : length runs' ≡ 48
  pub sums_more : (c : ℕ) → c < 48 → get_or sums' c 0 ≡ get_or sums c 0 + get_or row c 0
  pub runs_more : (c : ℕ) → c < 48 → get_or runs' c 0 ≡ get_or runs c 0 + get_or sums c 0
