-- The cases that document 01 marks P, as one table: what the definitions of the promises give, and what the document says. Assumes nothing.
use Rattle.std.specs.Prelude.{ℕ, List, [], ◌∷◌, ◌++◌, ◌≡◌, replicate, ℤ, pos, negsuc}
use Prim.Native.String.{String}
use Rattle.refusals.specs.Outcome.{Outcome, gives, refuses}
use Rattle.tonnage.specs.Services.{read_text}
use Rattle.ledger.specs.declared.Transaction.{Transaction}
use Rattle.lists.specs.Tables.{tab}
use Rattle.ledger.specs.declared.Read.{Read}
use Rattle.ledger.specs.declared.Write.{Write}
use Rattle.ledger.specs.Version.{absent, at}
use Rattle.ledger.specs.Tx.{Tx, no_read, no_write}
use Rattle.ledger.specs.Page.{page_of}
use Rattle.ledger.specs.declared.Entry.{Entry}
use Rattle.ledger.specs.State.{State, state_of, entry}
use Rattle.ledger.specs.Commit.{Commits, commit_batch}
use Rattle.planning.specs.Plan.{Plans, plan_batch}
use Rattle.planning.specs.Joined.{Joined, plan_and_commit}
use Rattle.ledger.specs.Services.{read_page, write_page}
use Rattle.lists.specs.Ascii.{ascii}

-- a case of the document
pub data Case : Type 0 where
  -- a tonnage text, and what reading it answers
  text : String → Outcome ℤ → Case
  -- a transaction, and the page that it is written as and read back from
  page : Transaction → List ℕ → Case
  -- a transaction, and what writing it answers
  written : Transaction → Outcome ℕ → Case
  -- the transactions of a batch on an empty state: the kept count, the verdicts and the order of its plan
  plan : List Tx → (count : ℕ) → (verdicts order : List ℕ) → Case
  -- and what stands at a key once the out batch is committed
  settled : List Tx → (key : ℕ) → Entry → Case
  -- the kept count, the verdicts and the order of the joined call on them, and what then stands at a key
  joined : List Tx → (count : ℕ) → (verdicts order : List ℕ) → (key : ℕ) → Entry → Case
  -- the passing count and the verdicts of a commit of them, and what then stands at a key
  commit : List Tx → (count : ℕ) → (verdicts : List ℕ) → (key : ℕ) → Entry → Case

-- eight absent keys; the number of the batch; the pages of some transactions
abbrev pub fresh : State
fresh = state_of (replicate 8 0) (replicate 8 65535) (replicate 8 (pos 0))

abbrev pub number : ℕ
number = 7

unfoldable pub batch_of : List Tx → List ℕ
batch_of [] = []
batch_of (x ∷ xs) = page_of x ++ batch_of xs

-- what plan leaves of lists of nines
abbrev pub plan_of : List Tx → Plans
plan_of xs = plan_batch (batch_of xs) fresh number (replicate 2 9) (replicate 2 9) (replicate 1024 9)

-- what commit leaves
abbrev pub commit_of : List Tx → Commits
commit_of xs = commit_batch (batch_of xs) fresh number (replicate 2 9)

-- what the joined call leaves
abbrev pub joined_of : List Tx → Joined
joined_of xs = plan_and_commit (batch_of xs) fresh number (replicate 2 9) (replicate 2 9)

-- what a case says
abbrev pub Holds : Case → Type 0
Holds (text t o) = read_text (ascii t) ≡ o
Holds (page t b) =
    (write_page (replicate 512 0) 0 t ≡ record { answer = gives 0; batch = b })
    × (read_page b ≡ record { answer = gives (record { reads = t.r; writes = t.w }); transaction = t })
Holds (plan xs k vs os) = ((plan_of xs).answer ≡ gives k) × ((plan_of xs).verdicts ≡ vs) × ((plan_of xs).order ≡ os)
Holds (settled xs k e) = entry (commit_batch (plan_of xs).out fresh number (replicate 2 9)).state k ≡ e
Holds (joined xs c vs os k e) =
    ((joined_of xs).answer ≡ gives c) × ((joined_of xs).verdicts ≡ vs) × ((joined_of xs).order ≡ os)
    × (entry (joined_of xs).state k ≡ e)
Holds (commit xs c vs k e) =
    ((commit_of xs).answer ≡ gives c) × ((commit_of xs).verdicts ≡ vs) × (entry (commit_of xs).state k ≡ e)
Holds (written t o) = (write_page (replicate 512 0) 0 t).answer ≡ o

-- each case of a list holds
abbrev pub Hold : List Case → Type 0
Hold [] = Unit {0}
Hold (c ∷ cs) = Holds c × Hold cs

-- r reads of absent keys 0, 1, .., and w puts of 0 on keys 0, 1, ..
abbrev pub with_counts : ℕ → ℕ → Transaction
with_counts r w = record {
  ticket = 0;
  r = r;
  w = w;
  reads = tab 32 (λ i. record { key = i; version = absent });
  writes = tab 32 (λ i. record { key = i; kind = 0; value = pos 0 });
}

-- "P: ticket 7, no reads, put 68400 on key 5"
abbrev pub ticket7 : Transaction
ticket7 = record {
  ticket = 7;
  r = 0;
  w = 1;
  reads = replicate 32 no_read;
  writes = record { key = 5; kind = 0; value = pos 68400 } ∷ replicate 31 no_write;
}

-- "bytes 54 00 01 00 07 00 00 00 05 00 00 00 30 0B 01, then zeros; check 960, stored C0 03 00 00"
abbrev pub bytes7 : List ℕ
bytes7 =
    (0x54 ∷ 0x00 ∷ 0x01 ∷ 0x00 ∷ 0x07 ∷ 0x00 ∷ 0x00 ∷ 0x00 ∷ 0x05 ∷ 0x00 ∷ 0x00 ∷ 0x00 ∷ 0x30 ∷ 0x0b ∷ 0x01 ∷ [])
    ++ (replicate 493 0 ++ (0xc0 ∷ 0x03 ∷ 0x00 ∷ 0x00 ∷ []))

-- a transaction that reads keys as absent and puts values on keys
abbrev pub tx : ℕ → List Read → List Write → Tx
tx t rs ws = record { ticket = t; reads = rs; writes = ws }

abbrev pub absent_read : ℕ → Read
absent_read k = record { key = k; version = absent }

abbrev pub put : ℕ → ℕ → Write
put k v = record { key = k; kind = 0; value = pos v }

-- "P: two transactions that each read and write key 3: the lower ticket is kept, the other gets 2."
abbrev pub crossing : List Tx
crossing = tx 9 (absent_read 3 ∷ []) (put 3 1 ∷ []) ∷ tx 4 (absent_read 3 ∷ []) (put 3 2 ∷ []) ∷ []

-- "P: A reads 1, B writes 1: B with the lower ticket still stands after A."
abbrev pub reader_first : List Tx
reader_first = tx 3 [] (put 1 5 ∷ []) ∷ tx 8 (absent_read 1 ∷ []) [] ∷ []

-- "P: two writers of key 3 that read nothing: both kept, lower ticket first, the higher ticket's value stays."
abbrev pub writers : List Tx
writers = tx 8 [] (put 3 5 ∷ []) ∷ tx 3 [] (put 3 6 ∷ []) ∷ []

-- "P: commit of page 0 failing, page 1 passing: page 1 writes version (n, 1)."
abbrev pub failing : List Tx
failing = tx 1 (record { key = 2; version = at 0 0 } ∷ []) (put 2 7 ∷ []) ∷ tx 2 [] (put 4 9 ∷ []) ∷ []

-- "P: "68,400" is 68400; "-0,050" is -50; "684" and "-0,000" give 18."
-- "P: ticket 7, no reads, put 68400 on key 5 .."; "P: r 25, w 25 fits exactly; r 26, w 25 is refused with 5.", at "1 for 5"
-- and the four cases above, each on both pages of its batch
abbrev pub table : List Case
table =
    text "68,400" (gives (pos 68400)) ∷
    text "-0,050" (gives (negsuc 49)) ∷
    text "684" (refuses 18 0) ∷
    text "-0,000" (refuses 18 0) ∷
    page ticket7 bytes7 ∷
    written (with_counts 25 25) (gives 0) ∷
    written (with_counts 26 25) (refuses 5 1) ∷
    plan crossing 1 (2 ∷ 0 ∷ []) (1 ∷ 9 ∷ []) ∷
    plan reader_first 2 (0 ∷ 0 ∷ []) (1 ∷ 0 ∷ []) ∷
    plan writers 2 (0 ∷ 0 ∷ []) (1 ∷ 0 ∷ []) ∷
    settled writers 3 (record { version = at number 1; value = pos 5 }) ∷
    commit failing 1 (3 ∷ 0 ∷ []) 4 (record { version = at number 1; value = pos 9 }) ∷
    []

-- two of the cases of planning once more, by the joined call: each write has the place of its page in the order, and a page of
-- a cycle writes nothing
abbrev pub joined_table : List Case
joined_table =
    joined crossing 1 (2 ∷ 0 ∷ []) (1 ∷ 9 ∷ []) 3 (record { version = at number 0; value = pos 2 }) ∷
    joined writers 2 (0 ∷ 0 ∷ []) (1 ∷ 0 ∷ []) 3 (record { version = at number 1; value = pos 5 }) ∷
    []
