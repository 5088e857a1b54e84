use mathlib.Core.Path.{◌≡◌, sym, ap, ◌∙◌}
use mathlib.Core.Bool.{not}
use Prim.Native.Nat.{◌<◌}
use native.Mathlib.Omega.{arith}
use lib.ListN.{length}
use Rattle.lists.proofs.Loops.{begins, found, ends}
use Rattle.lists.proofs.Loops.{passes as passed}
use Rattle.ledger.specs.declared.Read.{Read}
use Rattle.ledger.specs.Version.{same}
use Rattle.ledger.specs.Page.{page_tx}
use Rattle.ledger.specs.State.{lent, keys, versions}
use Rattle.ledger.specs.Commit.{names}
use Rattle.ledger.proofs.Rising.{below}
use Rattle.ledger.proofs.Commits.{fails_search, passes_search}
use Rattle.ledger.proofs.commit.passes.Goals as goal
use Rattle.ledger.proofs.commit.passes.Goals.{After-same, In-loop-i}
use Rattle.ledger.proofs.commit.passes.Invariants.{stale}

-- a turn's index is one of a read
within : (c : In-loop-i) → c.loop-i.i < length (page_tx c.args.page.bytes.now).reads
within c = omega (arith, c.loop-i-test.true, c.reads-i-end.ensures)

-- the code's test, as the search's
test : (c : After-same) → not c.same.result ≡ stale (page_tx c.args.page.bytes.now) (versions (lent c.args.state)) c.loop-i.i
test c =
    ap not
    (c.same.ensures
    ∙ ap (λ y. same c.read-x.result.version y) c.version.ensures
    ∙ ap (names (versions (lent c.args.state))) c.read-x.ensures)

pub loop-i-init : goal.loop-i-init
loop-i-init c = begins _ _ _ (omega arith)

pub read-x-requires : goal.read-x-requires
read-x-requires c = within (goal.at.read-x-requires c).In-loop-i

pub version-requires : goal.version-requires
version-requires c =
    let l = (below (keys (lent c.args.state)) (page_tx c.args.page.bytes.now) c.requires.ready.within).reads c.loop-i.i (within (goal.at.version-requires c).In-loop-i) in
    let k = ap (λ (r : Read). r.key) c.read-x.ensures in
    omega (arith, l, k, c.requires.places_len)

pub returns-then-not-same : goal.returns-then-not-same
returns-then-not-same c =
    fails_search _ (page_tx c.args.page.bytes.now) _
    (found c.loop-i.invariant (within (goal.at.returns-then-not-same c).In-loop-i) (sym (test (goal.at.returns-then-not-same c).After-same) ∙ (ap not c.if-not-same.true)))
    (within (goal.at.returns-then-not-same c).In-loop-i)

pub loop-i-preserved : goal.loop-i-preserved
loop-i-preserved c =
    passed c.loop-i.invariant (within (goal.at.loop-i-preserved c).In-loop-i) (sym (test (goal.at.loop-i-preserved c).After-same) ∙ (ap not c.if-not-same.false))

pub returns : goal.returns
returns c =
    passes_search _ (page_tx c.args.page.bytes.now) (ends c.loop-i.invariant (omega (arith, c.loop-i-test.false, c.reads-i-end.ensures)))
