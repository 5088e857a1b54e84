use mathlib.Core.Path.{sym, ap, ◌∙◌}
use Prim.Native.Nat.{◌<◌}
use native.Mathlib.Omega.{arith}
use Rattle.ledger.specs.Page.{read_count, read_at}
use Rattle.ledger.proofs.OnPage.{count-reads, read_is}
use Rattle.ledger.proofs.page.content.Page.read.Goals as goal
use Rattle.ledger.proofs.page.content.Page.read.Goals.{Start}

-- the index is below the count on the page
below : (c : Start) → c.args.i < read_count c.args.self.bytes.now
below c = omega (arith, count-reads c.args.self.bytes.now, c.requires)

pub read_start-requires : goal.read_start-requires
read_start-requires c = omega (arith, below (goal.at.read_start-requires c).Start)

pub at-requires : goal.at-requires
at-requires c = omega (arith, c.read_start.ensures, below (goal.at.at-requires c).Start)

pub returns : goal.returns
returns c =
    c.at.ensures
    ∙ ap (read_at c.args.self.bytes.now) c.read_start.ensures
    ∙ sym (read_is c.args.self.bytes.now c.args.i (below (goal.at.returns c).Start))
