use Rattle.lists.proofs.Loops.{Joined}
use lib.Dec.{eqb}
use lib.ListN.{length, get_or}
use Rattle.ledger.proofs.batch.among.Given as goal

-- the comparisons so far, joined
abbrev pub invariant-loop-other : goal.invariant-loop-other
invariant-loop-other l = Joined (λ k. eqb (get_or l.tickets k 0) l.ticket) (length l.tickets) l.other-index l.found
