use Prim.Native.Nat.{ℕ, ◌-◌, ◌≤◌}
use lib.ListN.{length}
use lib.IntN.{ℤ}
use Rattle.ledger.specs.declared.Write.{Write}
use Rattle.ledger.specs.Tx.{no_write}
use Rattle.ledger.specs.Page.{page_tx}
use Rattle.node.proofs.Filling.{Filling}
use Rattle.node.proofs.arrays.fill_writes.Given as goal

-- `fill_writes`: the fields of the writes so far stand in front.
abbrev pub key : Write → ℕ
key x = x.key

abbrev pub kind : Write → ℕ
kind x = x.kind

abbrev pub value : Write → ℤ
value x = x.value

abbrev pub invariant-loop-i : goal.invariant-loop-i
invariant-loop-i l = let xs = (page_tx l.page.bytes.now).writes in
    (l.i ≤ length xs) × Filling key no_write xs l.i l.keys × Filling kind no_write xs l.i l.kinds × Filling value no_write xs l.i l.values
