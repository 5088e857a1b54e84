use mathlib.Core.Path.{◌≡◌, sym, ap, ◌∙◌}
use lib.ListN.{get_or}
use Rattle.lists.proofs.Loops.{passes, gives-found, gives-none}
use Rattle.ledger.specs.Listed.{listed}
use Rattle.ledger.proofs.page.entries.Entries.first_wrong.Given.{Over}
use Rattle.ledger.proofs.page.entries.Entries.first_wrong.Goals as goal
use Rattle.ledger.proofs.page.entries.Entries.first_wrong.Goals.{After-is_wrong}

-- a turn's test is that of the entry
test-is : (g : Over) (c : After-is_wrong g) → let e = g.E.PageEntry in let s = c.args.self.now in
    e.wrong (get_or (listed e.at e.SIZE s.page.now s.from s.count) c.loop-i.i e.NONE) ≡ c.is_wrong.result
test-is g c = sym (c.is_wrong.ensures ∙ ap g.E.PageEntry.wrong c.get.ensures)

pub returns-then-is_wrong : goal.returns-then-is_wrong
returns-then-is_wrong g c =
    gives-found c.loop-i.invariant c.loop-i-test.true (test-is g (goal.at.returns-then-is_wrong g c).After-is_wrong ∙ c.if-is_wrong.true)

pub loop-i-preserved : goal.loop-i-preserved
loop-i-preserved g c =
    passes c.loop-i.invariant c.loop-i-test.true (test-is g (goal.at.loop-i-preserved g c).After-is_wrong ∙ c.if-is_wrong.false)

pub returns : goal.returns
returns g c = gives-none c.loop-i.invariant c.loop-i-test.false
