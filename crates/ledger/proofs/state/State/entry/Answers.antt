use native.Mathlib.Omega.{arith}
use Rattle.ledger.specs.State.{entry}
use mathlib.Core.Path.{ap₂}
use lib.ListN.{get_or}
use lib.IntN.{ℤ, pos}
use Rattle.ledger.specs.declared.Version.{Version}
use mir.Facts.{to_z-of_z}
use mir.Syntax.{w64}
use Rattle.ledger.proofs.state.State.entry.Goals as goal

pub returns : goal.returns
unfolding entry
returns c =
    ap₂ (λ (v : Version) (z : ℤ). record { version = v; value = z })
    c.version.ensures
    (to_z-of_z {w = w64} {z = get_or c.args.self.values.now c.args.key (pos 0)} (record { sfits = omega arith }))
