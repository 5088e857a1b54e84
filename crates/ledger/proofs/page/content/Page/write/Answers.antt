use mathlib.Core.Path.{◌≡◌, sym, ap, ◌∙◌}
use Prim.Native.Nat.{◌<◌}
use native.Mathlib.Omega.{arith}
use Rattle.ledger.specs.Page.{read_count, write_count, write_start, write_at}
use Rattle.ledger.proofs.OnPage.{count-reads, count-writes, write_is}
use Rattle.ledger.proofs.page.content.Page.write.Goals as goal
use Rattle.ledger.proofs.page.content.Page.write.Goals.{After-write_start, Start}

-- `write`: where it stands, within the page.
-- the index is below the count on the page
below : (c : Start) → c.args.i < write_count c.args.self.bytes.now
below c = omega (arith, count-writes c.args.self.bytes.now, c.requires)

-- where it starts
start : (c : After-write_start)
    → c.write_start.result ≡ write_start (read_count c.args.self.bytes.now) c.args.i
start c = omega (arith, c.write_start.ensures, c.reads.ensures, count-reads c.args.self.bytes.now)

pub write_start-requires : goal.write_start-requires
write_start-requires c =
    (omega (arith, c.reads.ensures, count-reads c.args.self.bytes.now), omega (arith, below (goal.at.write_start-requires c).Start))

pub write_at-requires : goal.write_at-requires
write_at-requires c = omega (arith, start (goal.at.write_at-requires c).After-write_start, below (goal.at.write_at-requires c).Start)

pub returns : goal.returns
returns c =
    c.write_at.ensures ∙ ap (write_at c.args.self.bytes.now) (start (goal.at.returns c).After-write_start) ∙ sym (write_is c.args.self.bytes.now c.args.i (below (goal.at.returns c).Start))
