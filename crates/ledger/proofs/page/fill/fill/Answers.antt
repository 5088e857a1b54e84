use Rattle.ledger.proofs.page.fill.fill.Goals as goal

pub returns : goal.returns
returns c =
    rw (c.put.ensures, c.weigh-sum.ensures, c.copy.ensures)
