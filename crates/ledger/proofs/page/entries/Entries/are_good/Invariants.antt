use lib.ListN.{length, get_or}
use Rattle.refusals.specs.Outcome.{number_of}
use Rattle.ledger.specs.Listed.{listed}
use Rattle.ledger.proofs.Entering.{Entering}
use Rattle.ledger.proofs.page.entries.Entries.are_good.Given as goal

-- `are_good`: the entries up to i, and the last key.
abbrev pub invariant-loop-i : goal.invariant-loop-i
invariant-loop-i g l =
    let e = g.E.PageEntry in
    let xs = listed e.at e.SIZE l.self.page.now l.self.from l.self.count in
    Entering (number_of e.KEYS) (number_of e.FORM) (λ j. e.key (get_or xs j e.NONE)) (λ j. e.wrong (get_or xs j e.NONE)) (length xs) l.floor l.i
