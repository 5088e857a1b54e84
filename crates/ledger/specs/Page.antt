-- Document 01, 'Page layout': the transaction on a page, the page of a transaction, and the table of a page's refusals. Assumes nothing.
use Rattle.std.specs.Prelude.{ℕ, ◌+◌, ◌-◌, ◌*◌, not, List, [], ◌∷◌, ◌++◌, length, get_or, take, drop, replicate, eqb, ltb}
use Rattle.std.specs.Int.{w64}
use Rattle.std.proofs.Common.{to_z, of_z}
use Rattle.refusals.specs.Fault.{Fault, Row, row, lowest_row, first}
use Rattle.ledger.specs.declared.Read.{Read}
use Rattle.ledger.specs.declared.Write.{Write}
use Rattle.lists.specs.Tables.{tab, flat}
use Rattle.octets.specs.Bytes.{field, le, weighed, set?}
use Rattle.ledger.specs.Tx.{Tx, read_of, write_of, out_of_turn, wrong_version, wrong_kind}

-- "1, 2: number of reads r, of writes w"
abbrev pub read_count : List ℕ → ℕ
read_count p = get_or p 1 0

abbrev pub write_count : List ℕ → ℕ
write_count p = get_or p 2 0

-- "8r + 12w"
abbrev pub size : ℕ → ℕ → ℕ
size r w = 8 * r + 12 * w

-- "8 on: r reads"; "then: w writes": where read i starts, and write i behind r reads
abbrev pub read_start : ℕ → ℕ
read_start i = 8 + 8 * i

abbrev pub write_start : ℕ → ℕ → ℕ
write_start r i = 8 + 8 * r + 12 * i

-- ---- the transaction on a page

-- "reads of 8 bytes: key 2, place 2, block 4"
abbrev pub read_at : List ℕ → ℕ → Read
read_at p at = record { key = field p at 2; version = record { block = field p (at + 4) 4; place = field p (at + 2) 2 } }

-- "writes of 12 bytes: key 2, kind 2, value 8 signed"
abbrev pub write_at : List ℕ → ℕ → Write
write_at p at = record { key = field p at 2; kind = field p (at + 2) 2; value = to_z w64 (field p (at + 4) 8) }

-- "4 to 7: ticket", and the entries
unfoldable pub page_tx : List ℕ → Tx
page_tx p = record {
  ticket = field p 4 4;
  reads = tab (read_count p) (λ i. read_at p (read_start i));
  writes = tab (write_count p) (λ i. write_at p (write_start (read_count p) i));
}

-- ---- the page of a transaction

abbrev pub read_bytes : Read → List ℕ
read_bytes x = le 2 x.key ++ le 2 x.version.place ++ le 4 x.version.block

abbrev pub write_bytes : Write → List ℕ
write_bytes x = le 2 x.key ++ le 2 x.kind ++ le 8 (of_z w64 x.value)

-- "0: mark, hex 54"; "3: zero"
abbrev pub head_bytes : ℕ → ℕ → ℕ → List ℕ
head_bytes r w ticket = (0x54 ∷ r ∷ w ∷ 0 ∷ []) ++ le 4 ticket

-- the head, the reads and the writes
abbrev pub laid_of : Tx → List ℕ
laid_of x =
    head_bytes (length x.reads) (length x.writes) x.ticket
    ++ flat (length x.reads) (λ i. read_bytes (read_of x.reads i))
    ++ flat (length x.writes) (λ i. write_bytes (write_of x.writes i))

-- bytes 0 to 507: these, and "up to 507: zero"
unfoldable pub body_of : Tx → List ℕ
body_of x = laid_of x ++ replicate (500 - size (length x.reads) (length x.writes)) 0

-- "508 to 511: check"
unfoldable pub page_of : Tx → List ℕ
page_of x = body_of x ++ le 4 (weighed (body_of x) 508)

-- ---- the table of a page, in turn; each row's place is "the offset of the fault within the page"

-- "4: r or w above 32", at "1 or 2", the lower that is wrong; "5: 8r + 12w above 500", at "1"
unfoldable pub count_rows : ℕ → ℕ → List Row
count_rows r w =
    row 4 1 (ltb 32 r) ∷
    row 4 2 (ltb 32 w) ∷
    row 5 1 (ltb 500 (size r w)) ∷
    []

-- "6: read keys not rising, or above 1023", at "the first byte of the lowest bad entry"; "7: read version of another form",
-- at "the same plus 2"
abbrev pub reads_rows : Tx → List Row
reads_rows x =
    let r = length x.reads in
    lowest_row 6 read_start (out_of_turn (λ i. (read_of x.reads i).key)) 0 r ∷
    lowest_row 7 (λ i. read_start i + 2) (λ i. wrong_version (read_of x.reads i).version) 0 r ∷
    []

-- "8: write keys not rising, or above 1023" and "9: kind neither 0 nor 1, or delete with value", at the same bytes of a write
abbrev pub writes_rows : Tx → List Row
writes_rows x =
    let r = length x.reads in
    let w = length x.writes in
    lowest_row 8 (write_start r) (out_of_turn (λ i. (write_of x.writes i).key)) 0 w ∷
    lowest_row 9 (λ i. write_start r i + 2) (λ i. wrong_kind (write_of x.writes i)) 0 w ∷
    []

-- 6 to 9: the entries
unfoldable pub entry_rows : Tx → List Row
entry_rows x = reads_rows x ++ writes_rows x

-- "2: check differs", at "508"; "3: mark or byte 3 wrong", at "0 or 3, the lower that is wrong"; then 4 and 5
unfoldable pub head_rows : List ℕ → List Row
head_rows p =
    row 2 508 (not (eqb (weighed p 508) (field p 508 4))) ∷
    row 3 0 (not (eqb (get_or p 0 0) 0x54)) ∷
    row 3 3 (set? p 3) ∷
    count_rows (read_count p) (write_count p)

-- "1: page not of 512 bytes"
abbrev pub length_row : List ℕ → Row
length_row p = row 1 0 (not (eqb (length p) 512))

-- "10: spare byte not zero", at "the lowest spare byte that is not zero"
abbrev pub spare_row : List ℕ → Row
spare_row p = lowest_row 10 (λ i. i) (set? p) (8 + size (read_count p) (write_count p)) 508

-- 2 to 10: a page that has its length
unfoldable pub whole_rows : List ℕ → List Row
whole_rows p = head_rows p ++ (entry_rows (page_tx p) ++ (spare_row p ∷ []))

-- "Reading a page: 1 to 10 in turn"
unfoldable pub page_rows : List ℕ → List Row
page_rows p = length_row p ∷ whole_rows p

abbrev pub page_fault : List ℕ → Fault
page_fault p = first (page_rows p)

-- ---- pages of a batch

-- page i of a batch
abbrev pub page_at : List ℕ → ℕ → List ℕ
page_at batch i = take 512 (drop (i * 512) batch)

-- the batch with page i replaced: "every byte of the batch outside that page stays"
abbrev pub with_page : List ℕ → ℕ → List ℕ → List ℕ
with_page batch i page = take (i * 512) batch ++ (page ++ drop (i * 512 + 512) batch)
