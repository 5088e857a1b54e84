use Rattle.ledger.specs.State.{lent, keys, entry, wrong_entry}
use Rattle.lists.proofs.Loops.{Unfound}
use Rattle.ledger.proofs.state.State.first_wrong.Given as goal

-- none where all are present, else a search by key
abbrev pub invariant-loop-k : goal.invariant-loop-k
invariant-loop-k l = Unfound (λ j. wrong_entry l.n (entry (lent l.self) j)) 0 (keys (lent l.self)) l.k
