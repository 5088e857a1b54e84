use mathlib.Core.Path.{refl}
use Rattle.ledger.proofs.Version.is_deleted.Goals as goal

-- `is_deleted`: the two tests themselves.
pub returns : goal.returns
returns c = refl
