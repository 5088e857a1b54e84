use Prim.Native.Nat.{ℕ, ◌-◌, ◌≤◌}
use lib.ListN.{length}
use Rattle.ledger.specs.declared.Read.{Read}
use Rattle.ledger.specs.Tx.{no_read}
use Rattle.ledger.specs.Page.{page_tx}
use Rattle.node.proofs.Filling.{Filling}
use Rattle.node.proofs.arrays.fill_reads.Given as goal

-- `fill_reads`: the fields of the reads so far stand in front.
abbrev pub key : Read → ℕ
key x = x.key

abbrev pub place : Read → ℕ
place x = x.version.place

abbrev pub block : Read → ℕ
block x = x.version.block

abbrev pub invariant-loop-i : goal.invariant-loop-i
invariant-loop-i l = let xs = (page_tx l.page.bytes.now).reads in
    (l.i ≤ length xs) × Filling key no_read xs l.i l.keys × Filling place no_read xs l.i l.places × Filling block no_read xs l.i l.blocks
