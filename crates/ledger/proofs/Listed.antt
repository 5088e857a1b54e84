-- Entries listed from a page: how many, which is which, and those of the transaction on the page. Assumes nothing.
use mathlib.Core.Path.{◌≡◌, sym, ap, ap₂, ◌∙◌}
use mathlib.Core.Bool.{Bool}
use mathlib.Core.List.{List, [], ◌∷◌}
use Prim.Native.Nat.{ℕ, ◌+◌, ◌*◌, ◌<◌}
use native.Mathlib.Omega.{arith}
use lib.ListN.{length, get_or}
use Rattle.std.specs.Prelude.{Option, Some, None}
use Rattle.lists.specs.Search.{found_in}
use Rattle.lists.proofs.Tables.{length-tab, get_or-tab}
use Rattle.lists.proofs.Searches.{given_some, given_none}
use Rattle.refusals.specs.Fault.{Row, clear, fault, first, lowest_row}
use Rattle.refusals.proofs.Rows.{row-passed, lowest_found, empty_clear}
use Rattle.ledger.specs.declared.Read.{Read}
use Rattle.ledger.specs.declared.Write.{Write}
use Rattle.ledger.specs.Tx.{Tx, no_read, no_write, out_of_turn, wrong_version, wrong_kind}
use Rattle.ledger.specs.Page.{read_at, write_at, page_tx, reads_rows, writes_rows}
use Rattle.ledger.specs.Inner.{Counted}
use Rattle.ledger.proofs.OnPage.{count-reads, count-writes}
use Rattle.ledger.specs.Listed.{Lie, listed, rows_of}

module _ {X : Type 0} (at : List ℕ → ℕ → X) (size : ℕ) (p : List ℕ) (from n : ℕ) where
  pub length-listed : length (listed at size p from n) ≡ n
  length-listed = length-tab (λ i. at p (from + size * i)) n

  -- an entry read where the i-th starts, by a size that is told
  pub is_listed : (none : X) (told i : ℕ) (x : X) → told ≡ size → x ≡ at p (from + told * i) → i < n → x ≡ get_or (listed at size p from n) i none
  is_listed none told i x s e h = e ∙ ap (λ m. at p (from + m * i)) s ∙ sym (get_or-tab (λ i. at p (from + size * i)) n i none h)

-- those of the transaction on a page whose counts are good
module _ (p : List ℕ) where
  module _ (n : ℕ) (count : n ≡ length (page_tx p).reads) where
    pub reads_lie : Counted p → Lie p 8 8 n
    reads_lie c = record { whole = c.whole; few = omega (arith, count-reads p, c.few-reads); within = omega (arith, count-reads p, c.room) }

    pub reads_listed : listed read_at 8 p 8 n ≡ (page_tx p).reads
    unfolding page_tx
    reads_listed = ap (λ m. listed read_at 8 p 8 m) (count ∙ count-reads p)

  module _ (r from n : ℕ) (behind : r ≡ length (page_tx p).reads) (start : from ≡ 8 + 8 * r) (count : n ≡ length (page_tx p).writes) where
    pub writes_lie : Counted p → Lie p 12 from n
    writes_lie c = record {
      whole = c.whole;
      few = omega (arith, count-writes p, c.few-writes);
      within = omega (arith, count-reads p, count-writes p, c.room);
    }

    pub writes_listed : listed write_at 12 p from n ≡ (page_tx p).writes
    unfolding page_tx
    writes_listed = rw (start, behind, count, count-reads p, count-writes p)

-- their rows
pub reads-ruled : (x : Tx) (from : ℕ) (xs : List Read) → from ≡ 8 → xs ≡ x.reads
    → rows_of 6 7 (λ i. from + 8 * i) no_read (λ r. r.key) (λ r. wrong_version r.version) xs ≡ reads_rows x
reads-ruled x from xs s e = ap₂ (λ a ys. rows_of 6 7 (λ i. a + 8 * i) no_read (λ r. r.key) (λ r. wrong_version r.version) ys) s e

pub writes-ruled : (x : Tx) (from : ℕ) (xs : List Write) → from ≡ 8 + 8 * length x.reads → xs ≡ x.writes
    → rows_of 8 9 (λ i. from + 12 * i) no_write (λ w. w.key) wrong_kind xs ≡ writes_rows x
writes-ruled x from xs s e = ap₂ (λ a ys. rows_of 8 9 (λ i. a + 12 * i) no_write (λ w. w.key) wrong_kind ys) s e

-- the rows of entries, as two searches of n indexes decide them: of the keys, and of what stands behind them
module _ {X : Type 0} (keys form : ℕ) (start : ℕ → ℕ) (none : X) (key : X → ℕ) (wrong : X → Bool) (xs : List X) (n : ℕ) (long : length xs ≡ n) where
  abbrev search_keys : Option ℕ
  search_keys = found_in (out_of_turn (λ i. key (get_or xs i none))) 0 n

  abbrev search_wrong : Option ℕ
  search_wrong = found_in (λ i. wrong (get_or xs i none)) 0 n

  abbrev rows : List Row
  rows = rows_of keys form start none key wrong xs

  pub key-fault : (i : ℕ) → Some i ≡ search_keys → fault keys (start i) ≡ first rows
  key-fault i e =
      let f = given_some _ 0 n i e in
      rw long (sym (lowest_found keys start _ 0 n _ i f.0 f.1))

  passed-keys : None ≡ search_keys → first rows ≡ first (lowest_row form (λ i. start i + 2) (λ i. wrong (get_or xs i none)) 0 n ∷ [])
  passed-keys e = rw long (row-passed (lowest_row keys start _ 0 n) _ (given_none _ 0 n e))

  pub wrong-fault : None ≡ search_keys → (i : ℕ) → Some i ≡ search_wrong → fault form (start i + 2) ≡ first rows
  wrong-fault k i e =
      let f = given_some _ 0 n i e in
      sym (passed-keys k ∙ lowest_found form (λ i. start i + 2) _ 0 n [] i f.0 f.1)

  pub no-fault : None ≡ search_keys → None ≡ search_wrong → clear ≡ first rows
  no-fault k e =
      sym (passed-keys k ∙ row-passed (lowest_row form (λ i. start i + 2) (λ i. wrong (get_or xs i none)) 0 n) [] (given_none _ 0 n e) ∙ empty_clear)
