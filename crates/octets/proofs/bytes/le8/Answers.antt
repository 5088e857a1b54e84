use mathlib.Core.Path.{◌∙◌}
use native.Mathlib.Omega.{arith}
use Rattle.octets.proofs.Numbers.{number-field}
use Rattle.octets.proofs.bytes.le8.Goals as goal

pub returns : goal.returns
returns c = rw c.bytes_at.ensures at c.from_le_bytes.ensures ∙ number-field _ _ 8 7 (omega arith)
