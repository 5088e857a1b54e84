use lib.ListN.{get_or}
use Rattle.lists.proofs.Loops.{Unfound}
use Rattle.ledger.specs.Listed.{listed}
use Rattle.ledger.proofs.page.entries.Entries.first_wrong.Given as goal

-- `first_wrong`: a search by index.
abbrev pub invariant-loop-i : goal.invariant-loop-i
invariant-loop-i g l =
    let e = g.E.PageEntry in
    let xs = listed e.at e.SIZE l.self.page.now l.self.from l.self.count in
    Unfound (λ j. e.wrong (get_or xs j e.NONE)) 0 l.self.count l.i
