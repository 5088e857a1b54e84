use Rattle.ledger.proofs.Version.is_present_under.Goals as goal

pub returns : goal.returns
returns c = rw c.is_present.ensures
