use mathlib.Core.Path.{refl}
use Rattle.ledger.proofs.Version.is_present.Goals as goal

-- `is_present`: the test itself.
pub returns : goal.returns
returns c = refl
