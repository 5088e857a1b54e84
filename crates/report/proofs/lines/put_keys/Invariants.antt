use Prim.Native.Nat.{◌*◌}
use Rattle.lists.specs.Tables.{flat}
use Rattle.ledger.specs.State.{lent}
use Rattle.report.specs.Put.{Puts}
use Rattle.report.specs.Listing.{key_line}
use Rattle.report.proofs.lines.put_keys.Given as goal

-- `put_keys`: a line for each key.
abbrev pub invariant-loop-key : goal.invariant-loop-key
invariant-loop-key l = Puts (60 * l.key) (flat l.key (key_line (lent l.state))) l.initial.text l.text
