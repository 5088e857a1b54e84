use lib.ListN.{get_or}
use Rattle.ledger.specs.Listed.{listed}
use Rattle.ledger.proofs.Turns.{Turned}
use Rattle.ledger.proofs.page.entries.Entries.first_key.Given as goal

-- `first_key`: a search for the first key out of turn.
abbrev pub invariant-loop-i : goal.invariant-loop-i
invariant-loop-i g l =
    let e = g.E.PageEntry in
    let xs = listed e.at e.SIZE l.self.page.now l.self.from l.self.count in
    Turned (λ j. e.key (get_or xs j e.NONE)) l.self.count l.floor l.i
