use mathlib.Core.Path.{◌≡◌}
use mathlib.Core.List.{◌++◌}
use Prim.Native.Nat.{◌-◌}
use lib.ListN.{take, replicate}
use Rattle.ledger.specs.Listed.{listed}
use Rattle.ledger.proofs.page.entries.Entries.to_array.Given as goal

-- `to_array`: the entries so far stand in front.
abbrev pub invariant-loop-i : goal.invariant-loop-i
invariant-loop-i g l =
    let e = g.E.PageEntry in
    let xs = listed e.at e.SIZE l.self.page.now l.self.from l.self.count in
    l.xs ≡ take l.i xs ++ replicate (32 - l.i) e.NONE
