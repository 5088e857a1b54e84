use mathlib.Core.Path.{refl}
use Rattle.ledger.proofs.Version.deleted.Goals as goal

pub returns : goal.returns
returns c = refl
