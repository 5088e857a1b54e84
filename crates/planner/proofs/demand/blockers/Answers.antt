use mathlib.Core.Path.{◌≡◌}
use native.Mathlib.Omega.{arith}
use lib.ListN.{length}
use Rattle.ledger.proofs.Pages.{good-counted}
use Rattle.planner.proofs.Demanding.{blocking_turns, blocking_ends}
use Rattle.planner.proofs.demand.blockers.Goals as goal

pub invariant_of-blockers_of : goal.invariant_of-blockers_of
invariant_of-blockers_of c = record { counted = rw c.page_at-bytes.ensures (good-counted _ (c.requires.good c.loop-rank.rank (omega arith))) }

pub loop-rank-preserved : goal.loop-rank-preserved
loop-rank-preserved c =
    blocking_turns c.args.batch.now c.args.pages.now c.all_readers-readers.result _ _ c.loop-rank.rank _ c.loop-rank.invariant (omega (arith, c.requires.few)) c.page_at-bytes.ensures c.blockers_of.ensures

pub returns : goal.returns
returns c =
    let e : c.loop-rank.rank ≡ length c.args.pages.now = omega arith in
    blocking_ends _ _ c.all_readers-readers.result _ _ c.requires (rw e at c.loop-rank.invariant) c.all_readers-readers.ensures
