use mathlib.Core.Path.{◌≡◌, ap}
use Prim.Native.Nat.{◌<◌}
use native.Mathlib.Omega.{arith}
use lib.ListN.{length}
use Rattle.ledger.specs.Tx.{no_read, padded}
use Rattle.ledger.specs.Page.{page_tx}
use Rattle.ledger.proofs.OnPage.{count-reads}
use Rattle.node.specs.Lent.{arrays_of}
use Rattle.node.proofs.Filling.{begins, turns, ends}
use Rattle.node.proofs.arrays.fill_reads.Goals as goal
use Rattle.node.proofs.arrays.fill_reads.Goals.{After-loop-i, In-loop-i}
use Rattle.node.proofs.arrays.fill_reads.Invariants.{key, place, block}

-- a turn's index is one of a read, and of the arrays
within : (c : In-loop-i) → c.loop-i.i < length (page_tx c.args.page.bytes.now).reads
within c = omega (arith, c.loop-i-test.true, c.reads-i-end.ensures)

room : (c : In-loop-i) → c.loop-i.i < 32
room c = omega (arith, within c, count-reads c.args.page.bytes.now, c.args.page.counted.few-reads)

-- at the end all reads are passed
done : (c : After-loop-i) → c.loop-i.i ≡ length (page_tx c.args.page.bytes.now).reads
done c = omega (arith, c.loop-i-test.false, c.reads-i-end.ensures, c.loop-i.invariant.0)

pub loop-i-init : goal.loop-i-init
loop-i-init c =
    let z = c.requires in
    (omega arith, begins key no_read _ _ z.0, begins place no_read _ _ z.1, begins block no_read _ _ z.2)

pub read-x-requires : goal.read-x-requires
read-x-requires c = within (goal.at.read-x-requires c).In-loop-i

pub offset_bounds-keys-i : goal.offset_bounds-keys-i
offset_bounds-keys-i c = omega (arith, room (goal.at.offset_bounds-keys-i c).In-loop-i)

pub bounds-keys-i : goal.bounds-keys-i
bounds-keys-i c = omega (arith, room (goal.at.bounds-keys-i c).In-loop-i, c.loop-i.invariant.1.long)

pub offset_bounds-places-i : goal.offset_bounds-places-i
offset_bounds-places-i c = omega (arith, room (goal.at.offset_bounds-places-i c).In-loop-i)

pub bounds-places-i : goal.bounds-places-i
bounds-places-i c = omega (arith, room (goal.at.bounds-places-i c).In-loop-i, c.loop-i.invariant.2.long)

pub offset_bounds-blocks-i : goal.offset_bounds-blocks-i
offset_bounds-blocks-i c = omega (arith, room (goal.at.offset_bounds-blocks-i c).In-loop-i)

pub bounds-blocks-i : goal.bounds-blocks-i
bounds-blocks-i c = omega (arith, room (goal.at.bounds-blocks-i c).In-loop-i, c.loop-i.invariant.3.long)

pub loop-i-preserved : goal.loop-i-preserved
loop-i-preserved c =
    let v = c.loop-i.invariant in
    let e = c.read-x.ensures in (
      omega (arith, within (goal.at.loop-i-preserved c).In-loop-i),
      turns key no_read _ _ _ _ (ap key e) v.1 (within (goal.at.loop-i-preserved c).In-loop-i) (room (goal.at.loop-i-preserved c).In-loop-i),
      turns place no_read _ _ _ _ (ap place e) v.2 (within (goal.at.loop-i-preserved c).In-loop-i) (room (goal.at.loop-i-preserved c).In-loop-i),
      turns block no_read _ _ _ _ (ap block e) v.3 (within (goal.at.loop-i-preserved c).In-loop-i) (room (goal.at.loop-i-preserved c).In-loop-i),
    )

pub returns : goal.returns
unfolding arrays_of padded
returns c =
    let v = c.loop-i.invariant in record {
      keys_after = ends key no_read _ _ _ v.1 (done (goal.at.returns c).After-loop-i);
      places_after = ends place no_read _ _ _ v.2 (done (goal.at.returns c).After-loop-i);
      blocks_after = ends block no_read _ _ _ v.3 (done (goal.at.returns c).After-loop-i);
    }
