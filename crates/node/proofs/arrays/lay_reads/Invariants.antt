use mathlib.Core.Path.{◌≡◌}
use Prim.Native.Nat.{◌-◌, ◌≤◌}
use lib.ListN.{length}
use lib.Seq.{sets}
use Rattle.lists.specs.Tables.{flat}
use Rattle.ledger.specs.Page.{read_bytes}
use Rattle.node.specs.Lent.{read_in}
use Rattle.node.proofs.arrays.lay_reads.Given as goal

-- `lay_reads`: the reads so far are laid out.
abbrev pub invariant-loop-i : goal.invariant-loop-i
invariant-loop-i l = (l.i ≤ l.count) × (length l.p ≡ length l.initial.p) × (l.p ≡ sets l.initial.p 8 (flat l.i (λ k. read_bytes (read_in l.keys l.places l.blocks k))))
