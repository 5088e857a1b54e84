-- Whether a page is good: what the steps of page/good.rt find. Assumes nothing.
use Rattle.std.specs.Prelude.{Bool, not, ◌&&◌, List, ℕ, ◌+◌, length, get_or, eqb}
use Rattle.lists.specs.Search.{some_in}
use Rattle.refusals.specs.Fault.{first, is_clear}
use Rattle.octets.specs.Bytes.{field, weighed, set?}
use Rattle.ledger.specs.Page.{read_count, write_count, size, count_rows}

-- 1 and 3 to 5: the length, the mark and byte 3, the counts
unfoldable pub framed : List ℕ → Bool
framed p =
    eqb (length p) 512
    && (eqb (get_or p 0 0) 0x54 && eqb (get_or p 3 0) 0)
    && is_clear (first (count_rows (read_count p) (write_count p)))

-- 2 and 10: the spare bytes, and the check
unfoldable pub closed : List ℕ → Bool
closed p = not (some_in (set? p) (8 + size (read_count p) (write_count p)) 508) && eqb (weighed p 508) (field p 508 4)
