use Rattle.ledger.proofs.Listed.{is_listed}
use Rattle.ledger.proofs.page.entries.Entries.get.Goals as goal

pub returns : goal.returns
returns g c = let e = g.E.PageEntry in is_listed e.at e.SIZE _ _ _ e.NONE _ _ _ c.SIZE.ensures c.at.ensures c.requires
