-- Document 01, 'Planning'. A transaction of a batch is named by its page index: `b i` is the transaction on page i. Assumes nothing.
use Rattle.std.specs.Prelude.{ℕ, ◌*◌, Bool, not, ◌&&◌, ◌||◌, cond, List, [], ◌∷◌, ◌++◌, length, drop, eqb, ltb, Result}
use Rattle.lists.specs.Members.{any, those}
use Rattle.lists.specs.Tables.{upto, filled, tab}
use Rattle.refusals.specs.declared.Refusal.{Refusal}
use Rattle.refusals.specs.Outcome.{Outcome, gives, outcome}
use Rattle.refusals.specs.Fault.{Row, first, judged, after}
use Rattle.orders.specs.Admission.{admit}
use Rattle.orders.specs.Arrange.{by_ticket, schedule}
use Rattle.ledger.specs.declared.Version.{Version}
use Rattle.ledger.specs.Tx.{Tx, keys_written, reader}
use Rattle.ledger.specs.Page.{page_at}
use Rattle.ledger.specs.State.{State, versions}
use Rattle.ledger.specs.Gate.{pages, tx_at, lent_row, gate_rows}
use Rattle.ledger.specs.Commit.{passes}

-- ---- rule 1

-- "A transaction is current when every read names its key's version at the start": `held` tells it
abbrev pub current : (ℕ → Version) → (ℕ → Tx) → ℕ → Bool
current held b i = passes held (b i)

-- ---- rule 2

-- "Between two different .. transactions, A must stand before B when A reads a key that B writes."
unfoldable pub before : (ℕ → Tx) → ℕ → ℕ → Bool
before b i j = not (eqb i j) && any (reader (b i)) (keys_written (b j))

-- ---- rule 3

-- the current ones of m pages, "In rising ticket order"
unfoldable pub sequence : (ℕ → Version) → (ℕ → Tx) → ℕ → List ℕ
sequence held b m = by_ticket (λ i. (b i).ticket) (those (current held b) (upto m))

-- "each current transaction is kept (verdict 0) exactly when the demands among those kept so far and itself contain no cycle":
-- over any sequence of current transactions
unfoldable pub kept : (ℕ → Tx) → List ℕ → List ℕ
kept b seq = admit (before b) [] seq

-- "Others get verdict 1, stale"; "kept (verdict 0)"; "Otherwise it gets verdict 2"
unfoldable pub verdict : (ℕ → Version) → (ℕ → Tx) → List ℕ → ℕ → ℕ
verdict held b seq i = cond (current held b i) (cond (any (eqb i) (kept b seq)) 0 2) 1

-- ---- rule 4

-- "Schedule: again and again, among the kept not yet placed, take the lowest ticket such that no other unplaced one must stand before it."
unfoldable pub order : (ℕ → Tx) → List ℕ → List ℕ
order b seq = schedule (before b) (λ i. (b i).ticket) (kept b seq)

-- ---- the service

-- pages of a batch, one after the other
unfoldable pub gathered : List ℕ → List ℕ → List ℕ
gathered batch [] = []
gathered batch (i ∷ is) = page_at batch i ++ gathered batch is

-- the outcome, and what was lent at the end
pub record Plans : Type 0 where
  pub answer : Outcome ℕ
  pub verdicts : List ℕ
  pub order : List ℕ
  pub out : List ℕ

-- "It fills the first m verdicts (m pages), the first k entries of the order list with page indexes in schedule order (k the kept count,
-- its result), and the first 512k bytes of the out batch with the kept pages in that order. Further entries stay as lent."
-- The sequence of admission is told.
unfoldable pub plans : List ℕ → (ℕ → Version) → List ℕ → List ℕ → List ℕ → List ℕ → Plans
plans batch held seq vs os out =
    let o = order (tx_at batch) seq in
    record {
      answer = gives (length o);
      verdicts = tab (pages batch) (verdict held (tx_at batch) seq) ++ drop (pages batch) vs;
      order = filled o os;
      out = gathered batch o ++ drop (512 * length o) out;
    }

-- "verdicts or order shorter than m"
abbrev pub short_lists : ℕ → List ℕ → List ℕ → Bool
short_lists m vs os = ltb (length vs) m || ltb (length os) m

-- "14: verdicts or order shorter than m, or out batch shorter than 512m"
abbrev pub short : List ℕ → List ℕ → List ℕ → List ℕ → Bool
short batch vs os out = short_lists (pages batch) vs os || ltb (length out) (512 * pages batch)

abbrev pub plan_rows : List ℕ → State → ℕ → List ℕ → List ℕ → List ℕ → List Row
plan_rows batch s n vs os out = gate_rows (lent_row (short batch vs os out) ∷ []) batch s n

-- "Any refusal returns its number and a place, and leaves all lent lists and bytes unchanged."
unfoldable pub plan_batch : List ℕ → State → ℕ → List ℕ → List ℕ → List ℕ → Plans
plan_batch batch s n vs os out =
    let wrong = first (plan_rows batch s n vs os out) in
    let seq = sequence (versions s) (tx_at batch) (pages batch) in
    let p = plans batch (versions s) seq vs os out in
    record {
      answer = judged wrong (length (order (tx_at batch) seq));
      verdicts = after wrong p.verdicts vs;
      order = after wrong p.order os;
      out = after wrong p.out out;
    }

-- the answer of plan as an outcome, with what was lent as it is at the end
abbrev pub planned : Result ℕ Refusal → List ℕ → List ℕ → List ℕ → Plans
planned a vs os out = record { answer = outcome a; verdicts = vs; order = os; out = out }
