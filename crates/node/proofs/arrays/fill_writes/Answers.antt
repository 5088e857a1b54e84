use mathlib.Core.Path.{◌≡◌, ap, ◌∙◌}
use Prim.Native.Nat.{◌+◌, ◌*◌, ◌≤◌, ◌<◌}
use native.Mathlib.Omega.{arith}
use lib.ListN.{length}
use mir.Facts.{to_z-of_z}
use mir.Syntax.{w64}
use Rattle.ledger.specs.Tx.{no_write, write_of, padded}
use Rattle.ledger.specs.Page.{read_count, page_tx}
use Rattle.ledger.proofs.OnPage.{count-reads, count-writes, write_from}
use Rattle.node.specs.Lent.{arrays_of}
use Rattle.node.proofs.Filling.{begins, turns, ends}
use Rattle.node.proofs.arrays.fill_writes.Goals as goal
use Rattle.node.proofs.arrays.fill_writes.Goals.{After-loop-i, After-write_at-x, In-loop-i}
use Rattle.node.proofs.arrays.fill_writes.Invariants.{key, kind, value}

-- a turn's index is one of a write, and of the arrays, and the write lies within the page
within : (c : In-loop-i) → c.loop-i.i < length (page_tx c.args.page.bytes.now).writes
within c = omega (arith, c.loop-i-test.true, c.writes-i-end.ensures)

room : (c : In-loop-i) → c.loop-i.i < 32
room c = omega (arith, within c, count-writes c.args.page.bytes.now, c.args.page.counted.few-writes)

inside : (c : In-loop-i) → c.writes_at-from.result + 12 * c.loop-i.i + 12 ≤ 512
inside c =
    let p = c.args.page.bytes.now in
    omega (arith, c.writes_at-from.ensures, c.reads.ensures, count-reads p, within c, count-writes p, c.args.page.counted.room)

-- the write of a turn: the writes start behind the reads
wrote : (c : After-write_at-x) → c.write_at-x.result ≡ write_of (page_tx c.args.page.bytes.now).writes c.loop-i.i
wrote c =
    let p = c.args.page.bytes.now in
    let behind : c.writes_at-from.result ≡ 8 + 8 * read_count p = omega (arith, c.writes_at-from.ensures, c.reads.ensures, count-reads p) in
    c.write_at-x.ensures ∙ write_from p _ c.loop-i.i behind (omega (arith, c.loop-i-test.true, c.writes-i-end.ensures, count-writes p))

-- at the end all writes are passed
done : (c : After-loop-i) → c.loop-i.i ≡ length (page_tx c.args.page.bytes.now).writes
done c = omega (arith, c.loop-i-test.false, c.writes-i-end.ensures, c.loop-i.invariant.0)

pub writes_at-from-requires : goal.writes_at-from-requires
writes_at-from-requires c =
    omega (arith, c.reads.ensures, count-reads c.args.page.bytes.now, c.args.page.counted.few-reads)

pub loop-i-init : goal.loop-i-init
loop-i-init c =
    let z = c.requires in
    (omega arith, begins key no_write _ _ z.0, begins kind no_write _ _ z.1, begins value no_write _ _ z.2)

pub overflow_mul-i : goal.overflow_mul-i
overflow_mul-i c = omega (arith, room (goal.at.overflow_mul-i c).In-loop-i)

pub overflow_add-from : goal.overflow_add-from
overflow_add-from c = omega (arith, inside (goal.at.overflow_add-from c).In-loop-i)

pub write_at-x-requires : goal.write_at-x-requires
write_at-x-requires c = omega (arith, inside (goal.at.write_at-x-requires c).In-loop-i, c.args.page.counted.whole)

pub offset_bounds-keys-i : goal.offset_bounds-keys-i
offset_bounds-keys-i c = omega (arith, room (goal.at.offset_bounds-keys-i c).In-loop-i)

pub bounds-keys-i : goal.bounds-keys-i
bounds-keys-i c = omega (arith, room (goal.at.bounds-keys-i c).In-loop-i, c.loop-i.invariant.1.long)

pub offset_bounds-kinds-i : goal.offset_bounds-kinds-i
offset_bounds-kinds-i c = omega (arith, room (goal.at.offset_bounds-kinds-i c).In-loop-i)

pub bounds-kinds-i : goal.bounds-kinds-i
bounds-kinds-i c = omega (arith, room (goal.at.bounds-kinds-i c).In-loop-i, c.loop-i.invariant.2.long)

pub offset_bounds-values-i : goal.offset_bounds-values-i
offset_bounds-values-i c = omega (arith, room (goal.at.offset_bounds-values-i c).In-loop-i)

pub bounds-values-i : goal.bounds-values-i
bounds-values-i c = omega (arith, room (goal.at.bounds-values-i c).In-loop-i, c.loop-i.invariant.3.long)

pub loop-i-preserved : goal.loop-i-preserved
loop-i-preserved c =
    let v = c.loop-i.invariant in
    let e = wrote (goal.at.loop-i-preserved c).After-write_at-x in (
      omega (arith, within (goal.at.loop-i-preserved c).In-loop-i),
      turns key no_write _ _ _ _ (ap key e) v.1 (within (goal.at.loop-i-preserved c).In-loop-i) (room (goal.at.loop-i-preserved c).In-loop-i),
      turns kind no_write _ _ _ _ (ap kind e) v.2 (within (goal.at.loop-i-preserved c).In-loop-i) (room (goal.at.loop-i-preserved c).In-loop-i),
      turns value no_write _ _ _ _ (to_z-of_z {w = w64} {z = c.write_at-x.result.value} (record { sfits = omega arith }) ∙ ap value e) v.3 (within (goal.at.loop-i-preserved c).In-loop-i) (room (goal.at.loop-i-preserved c).In-loop-i),
    )

pub returns : goal.returns
unfolding arrays_of padded
returns c =
    let v = c.loop-i.invariant in record {
      keys_after = ends key no_write _ _ _ v.1 (done (goal.at.returns c).After-loop-i);
      kinds_after = ends kind no_write _ _ _ v.2 (done (goal.at.returns c).After-loop-i);
      values_after = ends value no_write _ _ _ v.3 (done (goal.at.returns c).After-loop-i);
    }
