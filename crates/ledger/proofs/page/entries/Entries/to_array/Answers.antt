use mathlib.Core.Path.{◌≡◌, ap₂, ◌∙◌}
use native.Mathlib.Omega.{arith}
use lib.ListN.{length, set}
use Rattle.lists.proofs.Filled.{filled_more, filled-all}
use Rattle.ledger.specs.Listed.{listed}
use Rattle.ledger.proofs.Listed.{length-listed}
use Rattle.ledger.proofs.page.entries.Entries.to_array.Goals as goal

pub loop-i-preserved : goal.loop-i-preserved
loop-i-preserved g c =
    let e = g.E.PageEntry in
    let s = c.args.self.now in
    let n = length-listed e.at e.SIZE s.page.now s.from s.count in
    ap₂ (λ l x. set l c.loop-i.i x) c.loop-i.invariant c.get.ensures
    ∙ filled_more e.NONE _ 32 c.loop-i.i (omega arith) (omega (arith, s.lie.few))

pub returns : goal.returns
returns g c =
    let e = g.E.PageEntry in
    let s = c.args.self.now in
    let xs = listed e.at e.SIZE s.page.now s.from s.count in
    let all : c.loop-i.i ≡ length xs = omega (arith, length-listed e.at e.SIZE s.page.now s.from s.count) in
    c.loop-i.invariant ∙ rw all (filled-all e.NONE xs 32)
