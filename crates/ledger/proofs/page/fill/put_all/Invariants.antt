use mathlib.Core.Path.{◌≡◌}
use lib.ListN.{get_or}
use lib.Seq.{sets}
use Rattle.lists.specs.Tables.{flat}
use Rattle.ledger.proofs.page.fill.put_all.Given as goal

-- `put_all`: the entries so far are stored.
abbrev pub invariant-loop-i : goal.invariant-loop-i
invariant-loop-i g l =
    let e = g.E.PageEntry in
    l.p ≡ sets l.initial.p l.at (flat l.i (λ k. e.bytes (get_or l.xs k e.NONE)))
