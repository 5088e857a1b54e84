use mathlib.Core.Path.{◌≡◌, sym, ap, ap₂, ◌∙◌}
use native.Mathlib.Omega.{arith}
use lib.Dec.{eqb}
use Rattle.lists.specs.Search.{some_in}
use Rattle.octets.specs.Bytes.{set?}
use Rattle.ledger.specs.Good.{closed}
use Rattle.ledger.proofs.OnPage.{count-reads, count-writes}
use Rattle.ledger.proofs.Faults.{spare_from}
use Rattle.ledger.proofs.page.good.closed.Goals as goal
use Rattle.ledger.proofs.page.good.closed.Goals.{After-any_set}

-- `closed`: the spare bytes decide first, then the check.
-- where the spare bytes begin, and what stands there
spare : (c : After-any_set) → c.spare_at-spare.result ≡ spare_from c.args.page.bytes.now
spare c =
    let p = c.args.page.bytes.now in
    omega (arith, c.spare_at-spare.ensures, c.reads.ensures, c.writes.ensures, count-reads p, count-writes p)

searched : (c : After-any_set) → let p = c.args.page.bytes.now in
    c.any_set.result ≡ some_in (set? p) (spare_from p) 508
searched c =
    let p = c.args.page.bytes.now in
    c.any_set.ensures ∙ ap (λ n. some_in (set? p) n 508) (spare c)

pub spare_at-spare-requires : goal.spare_at-spare-requires
spare_at-spare-requires c =
    let p = c.args.page.bytes.now in
    (omega (arith, c.reads.ensures, count-reads p), omega (arith, c.writes.ensures, count-writes p))

pub any_set-requires : goal.any_set-requires
any_set-requires c =
    let p = c.args.page.bytes.now in
    omega (arith, c.spare_at-spare.ensures, c.reads.ensures, c.writes.ensures, count-reads p, count-writes p)

pub returns-then-any_set : goal.returns-then-any_set
unfolding closed
returns-then-any_set c = rw (sym (searched (goal.at.returns-then-any_set c).After-any_set) ∙ c.if-any_set.true)

pub weigh_used-requires : goal.weigh_used-requires
weigh_used-requires c = (omega arith, sym c.any_set.ensures ∙ c.if-any_set.false)

pub returns : goal.returns
unfolding closed
returns c =
    rw (sym (searched (goal.at.returns c).After-any_set) ∙ c.if-any_set.false) (ap₂ eqb c.weigh_used.ensures c.le4.ensures)
