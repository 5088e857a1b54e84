use Prim.Native.Nat.{◌<◌}
use native.Mathlib.Omega.{arith}
use lib.ListN.{length}
use Rattle.sets.proofs.Laws.{none}
use Rattle.ledger.specs.Page.{page_tx}
use Rattle.std.proofs.lemmas.List.{get_or_default}
use Rattle.planner.proofs.Demanding.{write-small, written_more, written_all}
use Rattle.planner.proofs.demand.blockers_of.Goals as goal
use Rattle.planner.proofs.demand.blockers_of.Goals.{After-write-x, In-loop-i}

-- there is a write here, and its key is within the sets
within : (c : In-loop-i) → c.loop-i.i < length (page_tx c.args.page.bytes.now).writes
within c = omega (arith, c.writes-i-end.ensures)

small : (c : After-write-x) → c.write-x.result.key < 1024
small c = write-small _ c.requires.page_value c.loop-i.i _ c.write-x.ensures (omega (arith, c.writes-i-end.ensures))

pub loop-i-init : goal.loop-i-init
loop-i-init c = none

pub write-x-requires : goal.write-x-requires
write-x-requires c = within (goal.at.write-x-requires c).In-loop-i

pub bounds-readers-key : goal.bounds-readers-key
bounds-readers-key c = small (goal.at.bounds-readers-key c).After-write-x

pub listed : goal.listed
listed c = omega (arith, small (goal.at.listed c).After-write-x)

pub loop-i-preserved : goal.loop-i-preserved
loop-i-preserved c =
    let at = goal.at.loop-i-preserved c in
    let key = small at.After-write-x in
    let got = get_or_default c.args.readers.now c.write-x.result.key c.index-readers-key.result 0 (omega arith) in
    written_more _ _ c.loop-i.i _ _ _ c.write-x.result c.loop-i.invariant (within at.In-loop-i) c.write-x.ensures got c.union-all.ensures

pub returns : goal.returns
returns c =
    written_all c.args.readers.now (page_tx c.args.page.bytes.now) c.loop-i.i _ _ _
    c.loop-i.invariant (omega (arith, c.writes-i-end.ensures)) c.without.ensures
