-- Document 01, 'The listing': its whole text, from what plan and commit leave. Assumes nothing.
use Rattle.std.specs.Prelude.{ℕ, Bool, not, ◌&&◌, cond, List, [], ◌∷◌, ◌++◌, length, get_or, eqb, leb, ltb}
use Rattle.lists.specs.Search.{first_in}
use Rattle.lists.specs.Ascii.{ascii}
use Rattle.tonnage.specs.Text.{digits, width, text_of}
use Rattle.lists.specs.Tables.{flat}
use Rattle.ledger.specs.declared.Entry.{Entry}
use Rattle.ledger.specs.Version.{is_present}
use Rattle.ledger.specs.State.{State, keys, entry, wrong_lengths}
use Rattle.ledger.specs.Gate.{pages, tx_at}

-- "numbers are decimal without needless zeros"
abbrev pub decimal : ℕ → List ℕ
decimal n = digits (width n) n

-- "The words stand in a fixed table, one per verdict number. From 0 on they are kept, stale, cycle and failed"
abbrev pub words : List (List ℕ)
words = ascii "kept" ∷ ascii "stale" ∷ ascii "cycle" ∷ ascii "failed" ∷ []

abbrev pub verdict_word : ℕ → List ℕ
verdict_word v = get_or words v []

-- "The header gives n, m and k."
unfoldable pub header : ℕ → ℕ → ℕ → List ℕ
header n m k = ascii "block " ++ (decimal n ++ (ascii " pages " ++ (decimal m ++ (ascii " kept " ++ (decimal k ++ ascii "\n")))))

-- "place in the schedule or a hyphen": where page i stands among the first k of the order
unfoldable pub place_text : List ℕ → ℕ → ℕ → List ℕ
place_text order k i =
    let p = first_in (λ j. eqb (get_or order j 0) i) 0 k in
    cond (ltb p k) (decimal p) (ascii "-")

-- "ticket, verdict word, place in the schedule or a hyphen"
unfoldable pub page_line : ℕ → ℕ → List ℕ → List ℕ
page_line ticket verdict place = decimal ticket ++ (ascii " " ++ (verdict_word verdict ++ (ascii " " ++ (place ++ ascii "\n"))))

-- "key, block and place with a dot between, tonnes"
unfoldable pub state_line : ℕ → Entry → List ℕ
state_line k e =
    decimal k ++ (ascii " " ++ (decimal e.version.block ++ (ascii "." ++ (decimal e.version.place ++ (ascii " " ++ (text_of e.value ++ ascii "\n"))))))

-- "each present key"
unfoldable pub key_line : State → ℕ → List ℕ
key_line s k = cond (is_present (entry s k).version) (state_line k (entry s k)) []

-- "Then come the pages in input order .. Then each present key, rising"
unfoldable pub listing : ℕ → List ℕ → List ℕ → List ℕ → ℕ → State → List ℕ
listing n batch verdicts order k s =
    header n (pages batch) k
    ++ (flat (pages batch) (λ i. page_line (tx_at batch i).ticket (get_or verdicts i 0) (place_text order k i))
    ++ flat (keys s) (key_line s))

-- "On a refusal the only line is `refused`, its number and its place, blanks between."
unfoldable pub refusal : ℕ → ℕ → List ℕ
refusal n p = ascii "refused " ++ (decimal n ++ (ascii " " ++ (decimal p ++ ascii "\n")))

-- the lent lists go together, and the buffer has room for any listing of them
abbrev pub together : List ℕ → List ℕ → List ℕ → List ℕ → ℕ → State → Bool
together out batch verdicts order k s =
    leb 65536 (length out)
    && leb (length batch) 32768
    && leb (pages batch) (length verdicts)
    && leb k (length order)
    && leb k 64
    && not (wrong_lengths s)

-- the text that is filled in: the listing, or nothing where the lists do not go together
unfoldable pub listed : List ℕ → ℕ → List ℕ → List ℕ → List ℕ → ℕ → State → List ℕ
listed out n batch verdicts order k s = cond (together out batch verdicts order k s) (listing n batch verdicts order k s) []

-- the refusal, or nothing where the buffer has less than 64 bytes
unfoldable pub refused : List ℕ → ℕ → ℕ → List ℕ
refused out n p = cond (leb 64 (length out)) (refusal n p) []
