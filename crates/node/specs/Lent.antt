-- What the node's services leave in what was lent to them, by the outcomes of the services below. Assumes nothing.
use Rattle.std.specs.Prelude.{ℕ, List, [], ◌∷◌, map, get_or, ℤ, pos}
use Rattle.refusals.specs.Outcome.{gives, refuses}
use Rattle.tonnage.specs.Services.{read_text, WrittenText}
use Rattle.ledger.specs.declared.Read.{Read}
use Rattle.ledger.specs.declared.Write.{Write}
use Rattle.ledger.specs.declared.Transaction.{Transaction}
use Rattle.lists.specs.Tables.{tab}
use Rattle.ledger.specs.Version.{at}
use Rattle.ledger.specs.Tx.{padded}
use Rattle.ledger.specs.Page.{page_tx}
use Rattle.ledger.specs.Services.{read_page, WrittenPage}
use Rattle.ledger.specs.State.{State}
use Rattle.ledger.specs.Commit.{Commits}
use Rattle.planning.specs.Plan.{Plans}
use Rattle.planning.specs.Joined.{Joined}
use Rattle.node.specs.Word.{upper, word}

-- ---- a transaction as the node lends it: the number of reads, of writes and the ticket, and six arrays of 32

pub record Arrays : Type 0 where
  pub head : List ℕ
  pub read_keys : List ℕ
  pub read_places : List ℕ
  pub read_blocks : List ℕ
  pub write_keys : List ℕ
  pub write_kinds : List ℕ
  pub write_values : List ℤ

-- entry i of three arrays
abbrev pub read_in : List ℕ → List ℕ → List ℕ → ℕ → Read
read_in keys places blocks i = record { key = get_or keys i 0; version = at (get_or blocks i 0) (get_or places i 0) }

abbrev pub write_in : List ℕ → List ℕ → List ℤ → ℕ → Write
write_in keys kinds values i = record { key = get_or keys i 0; kind = get_or kinds i 0; value = get_or values i (pos 0) }

-- the transaction in them
unfoldable pub lent_tx : Arrays → Transaction
lent_tx a = record {
  ticket = get_or a.head 2 0;
  r = get_or a.head 0 0;
  w = get_or a.head 1 0;
  reads = tab 32 (read_in a.read_keys a.read_places a.read_blocks);
  writes = tab 32 (write_in a.write_keys a.write_kinds a.write_values);
}

-- and a transaction laid out in them
unfoldable pub arrays_of : Transaction → Arrays
arrays_of t = record {
  head = t.r ∷ t.w ∷ t.ticket ∷ [];
  read_keys = map (λ x. x.key) t.reads;
  read_places = map (λ x. x.version.place) t.reads;
  read_blocks = map (λ x. x.version.block) t.reads;
  write_keys = map (λ x. x.key) t.writes;
  write_kinds = map (λ x. x.kind) t.writes;
  write_values = map (λ x. x.value) t.writes;
}

-- ---- reading a page

-- the transaction on a page in the arrays: "Reading a page fills entries beyond the counts with zero"
abbrev pub arrays_on : List ℕ → Arrays
arrays_on p = arrays_of (padded (page_tx p))

pub record PageLeft : Type 0 where
  pub word : ℕ
  pub arrays : Arrays

-- the transaction on a good page; "On a refusal nothing lent changes."
unfoldable pub page_left : List ℕ → Arrays → PageLeft
page_left p a =
    elim (read_page p).answer [
      | gives c ↦ record { word = 0; arrays = arrays_of (read_page p).transaction }
      | refuses n q ↦ record { word = upper n q; arrays = a }
    ]

-- ---- reading a tonnage text

pub record TextLeft : Type 0 where
  pub word : ℕ
  pub kilograms : ℤ

unfoldable pub text_left : List ℕ → ℤ → TextLeft
text_left text z =
    elim (read_text text) [
      | gives y ↦ record { word = 0; kilograms = y }
      | refuses n q ↦ record { word = upper n q; kilograms = z }
    ]

-- ---- the other services: the same outcome, its answer as a word

pub record WrittenLeft : Type 0 where
  pub word : ℕ
  pub text : List ℕ

abbrev pub written_left : WrittenText → WrittenLeft
written_left w = record { word = word w.answer; text = w.text }

pub record PutLeft : Type 0 where
  pub word : ℕ
  pub batch : List ℕ

abbrev pub put_left : WrittenPage → PutLeft
put_left w = record { word = word w.answer; batch = w.batch }

pub record CommitLeft : Type 0 where
  pub word : ℕ
  pub state : State
  pub verdicts : List ℕ

abbrev pub commit_left : Commits → CommitLeft
commit_left c = record { word = word c.answer; state = c.state; verdicts = c.verdicts }

pub record PlanLeft : Type 0 where
  pub word : ℕ
  pub verdicts : List ℕ
  pub order : List ℕ
  pub out : List ℕ

abbrev pub plan_left : Plans → PlanLeft
plan_left p = record { word = word p.answer; verdicts = p.verdicts; order = p.order; out = p.out }

pub record JoinedLeft : Type 0 where
  pub word : ℕ
  pub state : State
  pub verdicts : List ℕ
  pub order : List ℕ

abbrev pub joined_left : Joined → JoinedLeft
joined_left j = record { word = word j.answer; state = j.state; verdicts = j.verdicts; order = j.order }
