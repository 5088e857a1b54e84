use mathlib.Core.Path.{◌≡◌, ◌∙◌}
use Prim.Native.Nat.{◌<◌}
use native.Mathlib.Omega.{arith}
use lib.ListN.{length}
use Rattle.ledger.specs.Page.{page_tx}
use Rattle.planner.proofs.Demanding.{read_small, marking_ends}
use Rattle.planner.proofs.demand.add_reads.Goals as goal
use Rattle.planner.proofs.demand.add_reads.Goals.{After-read-x, At-loop-i, In-loop-i}

-- there is a read here, and its key is within the sets
within : (c : In-loop-i) → c.loop-i.i < length (page_tx c.args.page.bytes.now).reads
within c = omega (arith, c.reads-i-end.ensures)

small : (c : After-read-x) → c.read-x.result.key < 1024
small c = read_small _ c.requires.page_value c.loop-i.i _ c.read-x.ensures (omega (arith, c.reads-i-end.ensures))

long : (c : At-loop-i) → length c.loop-i.readers ≡ 1024
long c = c.loop-i.invariant.long ∙ c.requires.rank_bound.1

pub read-x-requires : goal.read-x-requires
read-x-requires c = within (goal.at.read-x-requires c).In-loop-i

pub bounds-readers-key : goal.bounds-readers-key
bounds-readers-key c = omega (arith, small (goal.at.bounds-readers-key c).After-read-x, long (goal.at.bounds-readers-key c).At-loop-i)

pub bounds-readers-key-in-loop-i : goal.bounds-readers-key-in-loop-i
bounds-readers-key-in-loop-i c = omega (arith, small (goal.at.bounds-readers-key-in-loop-i c).After-read-x, long (goal.at.bounds-readers-key-in-loop-i c).At-loop-i)

pub returns : goal.returns
returns c = marking_ends _ _ _ _ c.loop-i.i c.loop-i.invariant (omega (arith, c.reads-i-end.ensures))
