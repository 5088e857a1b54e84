use mathlib.Core.Path.{◌≡◌}
use Prim.Native.Nat.{ℕ, ◌-◌, ◌≤◌, ◌<◌}
use lib.ListN.{length, get_or}
use lib.Seq.{sets}
use lib.IntN.{pos}
use mir.Syntax.{w64}
use mir.Val.{SFits}
use Rattle.lists.specs.Tables.{flat}
use Rattle.ledger.specs.Page.{write_bytes}
use Rattle.node.specs.Lent.{write_in}
use Rattle.node.proofs.arrays.lay_writes.Given as goal

-- `lay_writes`: the writes so far are laid out, and their values are of 64 bits.
abbrev pub invariant-loop-i : goal.invariant-loop-i
invariant-loop-i l = (l.i ≤ l.count) × (length l.p ≡ length l.initial.p) × (l.p ≡ sets l.initial.p l.at (flat l.i (λ k. write_bytes (write_in l.keys l.kinds l.values k))))
    × ((k : ℕ) → k < l.i → SFits w64 (get_or l.values k (pos 0)))
