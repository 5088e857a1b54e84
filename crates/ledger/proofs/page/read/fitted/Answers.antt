use Rattle.ledger.proofs.Owned.{owned_fits}
use Rattle.ledger.proofs.page.read.fitted.Goals as goal

-- `fitted`: what owning the parameter tells.
pub returns : goal.returns
returns c = owned_fits c.args.t _ c.well_formed.0
