-- The entries on a page: how many there are, and which stands where. Assumes nothing.
use mathlib.Core.Path.{◌≡◌, sym}
use mathlib.Core.List.{List}
use Prim.Native.Nat.{ℕ, ◌+◌, ◌*◌, ◌<◌}
use lib.ListN.{length}
use Rattle.lists.proofs.Tables.{length-tab, get_or-tab}
use Rattle.ledger.specs.Tx.{no_read, no_write, read_of, write_of}
use Rattle.ledger.specs.Page.{read_count, write_count, read_at, write_at, page_tx}

module _ (p : List ℕ) where
  pub count-reads : length (page_tx p).reads ≡ read_count p
  unfolding page_tx
  count-reads = length-tab (λ i. read_at p (8 + 8 * i)) (read_count p)

  pub count-writes : length (page_tx p).writes ≡ write_count p
  unfolding page_tx
  count-writes = length-tab (λ i. write_at p (8 + 8 * read_count p + 12 * i)) (write_count p)

  pub read_is : (i : ℕ) → i < read_count p → read_of (page_tx p).reads i ≡ read_at p (8 + 8 * i)
  unfolding page_tx
  read_is i h = get_or-tab (λ i. read_at p (8 + 8 * i)) (read_count p) i no_read h

  pub write_is : (i : ℕ) → i < write_count p → write_of (page_tx p).writes i ≡ write_at p (8 + 8 * read_count p + 12 * i)
  unfolding page_tx
  write_is i h = get_or-tab (λ i. write_at p (8 + 8 * read_count p + 12 * i)) (write_count p) i no_write h

  -- by where the writes start
  pub write_from : (from i : ℕ) → from ≡ 8 + 8 * read_count p → i < write_count p → write_at p (from + 12 * i) ≡ write_of (page_tx p).writes i
  write_from from i e h = rw e (sym (write_is i h))
