use mathlib.Core.Path.{ap, ◌∙◌}
use mathlib.Core.List.{◌++◌}
use Prim.Native.Nat.{◌-◌}
use lib.ListN.{length, replicate}
use Rattle.ledger.specs.Tx.{padded, no_read, no_write}
use Rattle.ledger.proofs.page.read.transaction.Goals as goal

-- each field is that of the transaction on the page
pub returns : goal.returns
unfolding padded
returns c =
    let reads = c.to_array-reads.ensures ∙ ap (λ xs. xs ++ replicate (32 - length xs) no_read) c.all_reads.ensures.are in
    let writes = c.to_array-writes.ensures ∙ ap (λ xs. xs ++ replicate (32 - length xs) no_write) c.all_writes.ensures.are in
    λ i. record { ticket = c.ticket.ensures i; r = c.reads.ensures i; w = c.writes.ensures i; reads = reads i; writes = writes i }
