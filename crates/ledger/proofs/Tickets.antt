-- The tickets of the pages of a batch, gathered in turn, and the search among them. Assumes nothing.
use mathlib.Core.Path.{◌≡◌, refl, ap, ap₂, ◌∙◌}
use mathlib.Core.List.{List}
use Prim.Native.Nat.{ℕ, ◌+◌, ◌≤◌, ◌<◌}
use native.Mathlib.Omega.{arith}
use lib.ListN.{length, get_or, set, take, length-set}
use lib.Seq.{get_or-take, length-take-le}
use lib.Dec.{eqb, ltb}
use mathlib.Core.Bool.{cond}
use Rattle.std.specs.Prelude.{Some, None}
use Rattle.lists.specs.Search.{first_in, some_in, found_in}
use Rattle.lists.proofs.Searches.{some_same, first-same}
use Rattle.lists.proofs.Stores.{front_more}
use Rattle.ledger.specs.Gate.{tx_at, again}
use Rattle.ledger.specs.Inner.{TicketsOf}

-- the tickets of the first i pages stand in front of a list of `size`
pub record Gathering (batch tickets : List ℕ) (size i : ℕ) : Type 0 where
  pub many : length tickets ≡ size
  pub front : TicketsOf batch i tickets

pub gathering_begins : (batch tickets : List ℕ) → Gathering batch tickets (length tickets) 0
gathering_begins batch tickets = record { many = refl; front = record { each = λ j h. absurd (omega arith) } }

pub gathering_turns : {batch tickets : List ℕ} {size i : ℕ} (t : ℕ) → Gathering batch tickets size i → i < size → t ≡ (tx_at batch i).ticket → Gathering batch (set tickets i t) size (i + 1)
gathering_turns {batch} {tickets} {size} {i} t g h is = record {
  many = length-set tickets i t ∙ g.many;
  front = record { each = front_more (λ j. (tx_at batch j).ticket) tickets i t (omega (arith, g.many)) is g.front.each };
}

-- the first i of them, and one of them
pub among_first : (ts : List ℕ) (i t : ℕ) → i ≤ length ts
    → some_in (λ j. eqb (get_or (take i ts) j 0) t) 0 (length (take i ts)) ≡ some_in (λ j. eqb (get_or ts j 0) t) 0 i
among_first ts i t h =
    ap (some_in (λ j. eqb (get_or (take i ts) j 0) t) 0) (length-take-le i ts h)
    ∙ some_same _ (λ j. eqb (get_or ts j 0) t) i (λ j l. ap (λ x. eqb x t) (get_or-take i ts j 0 l))

-- the tickets of the first m pages, as many as there are
first_tickets : (batch : List ℕ) (m : ℕ) (ts : List ℕ) → TicketsOf batch m ts → TicketsOf batch m (take m ts)
first_tickets batch m ts t = record { each = λ i h. get_or-take m ts i 0 h ∙ t.each i h }

-- a ticket among them stands earlier where it stands on an earlier page
pub again_is :
    (batch : List ℕ) (m : ℕ) (ts : List ℕ) → TicketsOf batch m ts →
    first_in (λ i. some_in (λ j. eqb (get_or ts j 0) (get_or ts i 0)) 0 i) 0 m ≡ first_in (again batch) 0 m
again_is batch m ts t =
    first-same _ (again batch) m
    (λ i h. some_same _ (λ j. eqb (tx_at batch j).ticket (tx_at batch i).ticket) i (λ j l. ap₂ eqb (t.each j (omega arith)) (t.each i h)))

again_found :
    (batch : List ℕ) (m : ℕ) (ts : List ℕ) → TicketsOf batch m ts →
    found_in (λ i. some_in (λ j. eqb (get_or ts j 0) (get_or ts i 0)) 0 i) 0 m ≡ found_in (again batch) 0 m
again_found batch m ts t = ap (λ n. cond (ltb n m) (Some n) None) (again_is batch m ts t)

-- the same among the first m of a list
pub again_first :
    (batch : List ℕ) (m : ℕ) (ts : List ℕ) → m ≤ length ts → TicketsOf batch m ts →
    found_in (λ i. some_in (λ j. eqb (get_or (take m ts) j 0) (get_or (take m ts) i 0)) 0 i) 0 (length (take m ts)) ≡ found_in (again batch) 0 m
again_first batch m ts h t =
    ap (found_in (λ i. some_in (λ j. eqb (get_or (take m ts) j 0) (get_or (take m ts) i 0)) 0 i) 0) (length-take-le m ts h)
    ∙ again_found batch m (take m ts) (first_tickets batch m ts t)
