-- Document 02, E1, 'Show me the byte': what the place of a refusal shows, in the request's words. Assumes nothing.
use Rattle.std.specs.Prelude.{ℕ, ◌+◌, ◌/◌, ◌%◌, ◌≤◌, ◌<◌, Bool, true, false, List, ◌≡◌, length, get_or}
use Rattle.refusals.specs.Fault.{clear}
use Rattle.octets.specs.Bytes.{field, weighed, set?}
use Rattle.ledger.specs.declared.Transaction.{Transaction}
use Rattle.ledger.specs.Tx.{Tx, value_tx, read_of, write_of, out_of_turn, wrong_version, wrong_kind}
use Rattle.ledger.specs.Page.{read_count, write_count, size, read_start, write_start, page_tx, page_fault, page_at}
use Rattle.ledger.specs.Gate.{pages}

-- "the lowest bad entry", of those from `from` up to, not including, `to`: q is its place, it is bad, and no earlier one is
pub record Lowest (bad : ℕ → Bool) (from to : ℕ) (place : ℕ → ℕ) (q : ℕ) : Type 0 where
  pub entry : ℕ
  pub behind : from ≤ entry
  pub within : entry < to
  pub shown : q ≡ place entry
  pub is_bad : bad entry ≡ true
  pub earlier : (j : ℕ) → from ≤ j → j < entry → bad j ≡ false

-- of r reads and w writes
pub data CountByte (r w : ℕ) : ℕ → ℕ → Type 0 where
  -- "1 or 2 likewise for 4"
  many_reads : 32 < r → CountByte r w 4 1
  many_writes : r ≤ 32 → 32 < w → CountByte r w 4 2
  -- "1 for 5"
  no_room : 500 < size r w → CountByte r w 5 1

-- of the entries
pub data EntryByte (x : Tx) : ℕ → ℕ → Type 0 where
  -- "the first byte of the lowest bad entry for 6 and 8 (of two keys that do not rise, the later)"; "the same plus 2 for 7 and 9"
  read-key : {q : ℕ} → Lowest (out_of_turn (λ i. (read_of x.reads i).key)) 0 (length x.reads) read_start q → EntryByte x 6 q
  read_version : {q : ℕ} → Lowest (λ i. wrong_version (read_of x.reads i).version) 0 (length x.reads) (λ i. read_start i + 2) q → EntryByte x 7 q
  write-key : {q : ℕ} → Lowest (out_of_turn (λ i. (write_of x.writes i).key)) 0 (length x.writes) (write_start (length x.reads)) q → EntryByte x 8 q
  write-kind : {q : ℕ} → Lowest (λ i. wrong_kind (write_of x.writes i)) 0 (length x.writes) (λ i. write_start (length x.reads) i + 2) q → EntryByte x 9 q

-- "the page reader shall also give the offset of the fault within the page"
pub data PageByte (p : List ℕ) : ℕ → ℕ → Type 0 where
  -- 1 has place 0
  no_page : (length p ≡ 512 → ⊥) → PageByte p 1 0
  -- "508 for 2"
  check : (weighed p 508 ≡ field p 508 4 → ⊥) → PageByte p 2 508
  -- "0 or 3, the lower that is wrong, for 3"
  mark : (get_or p 0 0 ≡ 0x54 → ⊥) → PageByte p 3 0
  third : get_or p 0 0 ≡ 0x54 → (get_or p 3 0 ≡ 0 → ⊥) → PageByte p 3 3
  counts : {n q : ℕ} → CountByte (read_count p) (write_count p) n q → PageByte p n q
  entries : {n q : ℕ} → EntryByte (page_tx p) n q → PageByte p n q
  -- "the lowest spare byte that is not zero for 10"
  spare : {q : ℕ} → Lowest (set? p) (8 + size (read_count p) (write_count p)) 508 (λ i. i) q → PageByte p 10 q

-- "The writer gives the offset that the entry would have."; 17 has place 0
pub data WriteByte (t : Transaction) : ℕ → ℕ → Type 0 where
  written-counts : {n q : ℕ} → CountByte t.r t.w n q → WriteByte t n q
  written-entries : {n q : ℕ} → EntryByte (value_tx t) n q → WriteByte t n q
  no_index : WriteByte t 17 0

-- "Plan and commit hand it on as page times 512 plus offset": of place q the page is q / 512, the lowest bad one, and the offset q % 512
pub record BatchByte (batch : List ℕ) (n q : ℕ) : Type 0 where
  pub within : q / 512 < pages batch
  pub earlier : (j : ℕ) → j < q / 512 → page_fault (page_at batch j) ≡ clear
  pub shown : PageByte (page_at batch (q / 512)) n (q % 512)
