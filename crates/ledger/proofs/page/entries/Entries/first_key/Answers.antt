use mathlib.Core.Path.{◌≡◌, sym, ap, ◌∙◌}
use lib.ListN.{get_or}
use Rattle.lists.proofs.Loops.{gives-none}
use Rattle.ledger.specs.Listed.{listed}
use Rattle.ledger.proofs.Turns.{turned_begins, turned_found, turned_passes}
use Rattle.ledger.proofs.page.entries.Entries.first_key.Given.{Over}
use Rattle.ledger.proofs.page.entries.Entries.first_key.Goals as goal
use Rattle.ledger.proofs.page.entries.Entries.first_key.Goals.{After-key-key}

-- a turn's key is that of the entry
key-is : (g : Over) (c : After-key-key g) → let e = g.E.PageEntry in let s = c.args.self.now in
    c.key-key.result ≡ e.key (get_or (listed e.at e.SIZE s.page.now s.from s.count) c.loop-i.i e.NONE)
key-is g c = c.key-key.ensures ∙ ap g.E.PageEntry.key c.get.ensures

pub loop-i-init : goal.loop-i-init
loop-i-init g c = turned_begins _ _

pub returns-then-key_wrong : goal.returns-then-key_wrong
returns-then-key_wrong g c =
    turned_found _ _ _ _ _ c.loop-i.invariant c.loop-i-test.true (key-is g (goal.at.returns-then-key_wrong g c).After-key-key) (sym c.key_wrong.ensures ∙ c.if-key_wrong.true)

pub loop-i-preserved : goal.loop-i-preserved
loop-i-preserved g c =
    turned_passes _ _ _ _ _ c.loop-i.invariant c.loop-i-test.true (key-is g (goal.at.loop-i-preserved g c).After-key-key) (sym c.key_wrong.ensures ∙ c.if-key_wrong.false)

pub returns : goal.returns
returns g c = gives-none c.loop-i.invariant.unfound c.loop-i-test.false
