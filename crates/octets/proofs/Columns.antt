-- Laws of the sum by columns, and what the loops that take it keep. Assumes nothing.
use mathlib.Core.Path.{◌≡◌, refl, ap}
use mathlib.Core.List.{List}
use Prim.Native.Nat.{ℕ, zero, suc, ◌+◌, ◌*◌, ◌-◌, ◌≤◌, ◌<◌}
use native.Mathlib.Nat.{mul-add, add-mul, add-suc, add-zero, mul-zero, mul-le-mul, le-pred_of_lt}
use native.Mathlib.Numerals.{add-one}
use native.Mathlib.Omega.{arith}
use lib.ListN.{length, get_or, take, drop, replicate, get_or-replicate}
use Rattle.octets.specs.Bytes.{weighed, Small}
use Rattle.octets.specs.Columns.{by_columns, Added}
use Rattle.octets.proofs.Numbers.{byte_at}

-- the sum of the first n elements
unfoldable pub summed : List ℕ → ℕ → ℕ
summed l zero = 0
summed l (suc n) = summed l n + get_or l n 0

-- one column more, and a bound on what it adds
pub gathered_next : (sums runs : List ℕ) (c : ℕ) → by_columns sums runs (c + 1) ≡ by_columns sums runs c + ((c + 1) * get_or sums c 0 + 48 * get_or runs c 0)
unfolding by_columns
gathered_next sums runs c = ap (by_columns sums runs) (add-one c)

pub column_le : {a b : ℕ} → a ≤ 48 → b < 65536 → a * b ≤ 3145680
column_le h k = mul-le-mul h (le-pred_of_lt k)

-- one row more, in the sum over the first n columns
module _ (row sums runs sums' runs' : List ℕ) (a : Added row sums runs sums' runs') where
  summed_added : (n : ℕ) → n ≤ 48 → summed sums' n ≡ summed sums n + summed row n
  unfolding summed
  summed_added zero h = refl
  summed_added (suc n) h = omega (arith, summed_added n (omega arith), a.sums_more n h)

  gathered_added : (n : ℕ) → n ≤ 48 → by_columns sums' runs' n ≡ by_columns sums runs n + weighed row n + 48 * summed sums n
  unfolding by_columns weighed summed
  gathered_added zero h = refl
  gathered_added (suc n) h =
      rw (a.sums_more n h, a.runs_more n h)
      (omega (arith, gathered_added n (omega arith), mul-add (n + 1) (get_or sums n 0) (get_or row n 0)))

-- the n bytes from b on, weighed as a row of their own
weighed-row : (p row : List ℕ) (b n : ℕ) → ((c : ℕ) → c < n → get_or row c 0 ≡ get_or p (b + c) 0)
    → weighed p (b + n) ≡ weighed p b + weighed row n + b * summed row n
unfolding weighed summed
weighed-row p row b zero h = simp (add-zero, mul-zero)
weighed-row p row b (suc n) h =
    let ih = weighed-row p row b n (λ c l. h c (omega arith)) in
    rw (add-suc b n, h n (omega arith))
    (omega (arith, ih, mul-add b (summed row n) (get_or p (b + n) 0), add-mul b (n + 1) (get_or p (b + n) 0)))

-- a row half added: the columns before c have it, the others stand as they did
pub record Adding (row sums₀ runs₀ sums runs : List ℕ) (c : ℕ) : Type 0 where
  pub sums_long : length sums ≡ 48
  pub runs_long : length runs ≡ 48
  pub sums_done : (k : ℕ) → k < c → get_or sums k 0 ≡ get_or sums₀ k 0 + get_or row k 0
  pub runs_done : (k : ℕ) → k < c → get_or runs k 0 ≡ get_or runs₀ k 0 + get_or sums₀ k 0
  pub sums_left : (k : ℕ) → c ≤ k → get_or sums k 0 ≡ get_or sums₀ k 0
  pub runs_left : (k : ℕ) → c ≤ k → get_or runs k 0 ≡ get_or runs₀ k 0

-- the 48 bytes from b on, as the code cuts them out
abbrev pub row_of : List ℕ → ℕ → List ℕ
row_of p b = take (b + 48 - b) (drop b p)

row_at : (p : List ℕ) (b c : ℕ) → c < 48 → get_or (row_of p b) c 0 ≡ get_or p (b + c) 0
row_at p b c h = byte_at p b (b + 48 - b) c (omega arith)

weighed_none : (p : List ℕ) → weighed p 0 ≡ 0
unfolding weighed
weighed_none p = refl

-- of the first m rows those from r on are added: the columns weigh them as if row r were the first, the rows before put 48 r to the weight of each byte, and with the bytes of those rows it is the sum of all m rows
pub record Columned (p : List ℕ) (m : ℕ) (sums runs : List ℕ) (r : ℕ) : Type 0 where
  pub few : m ≤ 10
  pub in_rows : r ≤ m
  pub sums_long : length sums ≡ 48
  pub runs_long : length runs ≡ 48
  pub sums_low : (c : ℕ) → c < 48 → get_or sums c 0 ≤ 255 * (10 - r)
  pub runs_low : (c : ℕ) → c < 48 → get_or runs c 0 ≤ 2550 * (10 - r)
  pub whole : by_columns sums runs 48 + r * 48 * summed sums 48 + weighed p (r * 48) ≡ weighed p (m * 48)

pub columned_begins : (p : List ℕ) (m : ℕ) → m ≤ 10 → Columned p m (replicate 48 0) (replicate 48 0) m
unfolding by_columns summed
columned_begins p m h = record {
  few = h;
  in_rows = omega arith;
  sums_long = refl;
  runs_long = refl;
  sums_low = λ c l. omega (arith, get_or-replicate {A = ℕ} 48 c 0 0 l);
  runs_low = λ c l. omega (arith, get_or-replicate {A = ℕ} 48 c 0 0 l);
  whole = rw mul-zero (omega arith);
}

module _ (p : List ℕ) (m : ℕ) (sums runs : List ℕ) (r : ℕ) (k : Columned p m sums runs r) where
  pub columned_ends : r ≤ 0 → by_columns sums runs 48 ≡ weighed p (m * 48)
  columned_ends h =
      let z : r ≡ 0 = omega arith in
      let e = rw z at k.whole in
      omega (arith, weighed_none p)

  -- the row before r
  module _ (some : 0 < r) where
    pub columned_turns : (sums' runs' : List ℕ) → Small p → Added (row_of p ((r - 1) * 48)) sums runs sums' runs' → Columned p m sums' runs' (r - 1)
    columned_turns sums' runs' small a =
        let b = (r - 1) * 48 in
        let row = row_of p b in
        record {
          few = k.few;
          in_rows = omega (arith, k.in_rows);
          sums_long = a.sums_long;
          runs_long = a.runs_long;
          sums_low = λ c h. omega (arith, a.sums_more c h, k.sums_low c h, row_at p b c h, small (b + c), k.in_rows, k.few);
          runs_low = λ c h. omega (arith, a.runs_more c h, k.runs_low c h, k.sums_low c h, k.in_rows, k.few);
          whole =
              let up : r * 48 ≡ b + 48 = omega arith in
              let before = rw up at k.whole in
              rw (summed_added row sums runs sums' runs' a 48 (omega arith))
              (omega (arith, before, gathered_added row sums runs sums' runs' a 48 (omega arith), weighed-row p row b 48 (row_at p b), add-mul b 48 (summed sums 48), mul-add b (summed sums 48) (summed row 48)));
        }
