use Rattle.lists.proofs.Loops.{Unfound}
use Rattle.lists.specs.Search.{some_in}
use lib.Dec.{eqb}
use lib.ListN.{length, get_or}
use Rattle.ledger.proofs.batch.first_again.Given as goal

-- a search by page, among the tickets
abbrev pub invariant-loop-i : goal.invariant-loop-i
invariant-loop-i l = Unfound (λ k. some_in (λ j. eqb (get_or l.tickets j 0) (get_or l.tickets k 0)) 0 k) 0 (length l.tickets) l.i
