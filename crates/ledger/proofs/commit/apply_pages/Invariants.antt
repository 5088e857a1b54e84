use mathlib.Core.Path.{◌≡◌}
use mathlib.Core.List.{List}
use Prim.Native.Nat.{ℕ}
use lib.ListN.{get_or}
use Rattle.lists.specs.Tables.{tab}
use Rattle.ledger.specs.Gate.{tx_at}
use Rattle.ledger.specs.State.{held, SameLists}
use Rattle.ledger.specs.Tx.{Tx}
use Rattle.ledger.specs.Inner.{applied}
use Rattle.ledger.proofs.commit.apply_pages.Given as goal

-- the transaction that an order names at a place
abbrev pub named : List ℕ → List ℕ → ℕ → Tx
named batch order i = tx_at batch (get_or order i 0)

-- the pages in the order's turn
abbrev pub invariant-loop-i : goal.invariant-loop-i
invariant-loop-i l = record {
  same_lists : SameLists l.initial.state l.state;
  left : held l.state ≡ applied l.n 0 (held l.initial.state) (tab l.i (named l.batch l.order));
}
