use mathlib.Core.Path.{◌≡◌, refl, ap, ◌∙◌}
use Prim.Native.Nat.{◌+◌, ◌*◌, ◌≤◌, ◌<◌}
use lib.ListN.{length}
use Rattle.ledger.specs.declared.Write.{Write}
use Rattle.ledger.specs.Page.{read_count, page_tx}
use Rattle.ledger.specs.Tx.{write_of}
use Rattle.ledger.specs.State.{held, keys, store}
use Rattle.ledger.proofs.Rising.{below, write_kinds_lem}
use Rattle.ledger.proofs.OnPage.{count-reads, count-writes, write_from}
use borrow.Author.Rules.{rules}
use Rattle.ledger.proofs.Commits.{writing_begins, writing_kept, writing_level, writing_turns, writing_ends}
use native.Mathlib.Omega.{arith}
use Rattle.ledger.proofs.commit.apply.Goals as goal
use Rattle.ledger.proofs.commit.apply.Goals.{After-write_at-x, In-loop-j, Start}

-- a turn's index is one of a write
within : (c : In-loop-j) → c.loop-j.j < length (page_tx c.args.page.bytes.now).writes
within c = omega (arith, c.loop-j-test.true, c.writes-j-end.ensures)

-- the write of a turn: the writes start behind the reads
wrote : (c : After-write_at-x) → c.write_at-x.result ≡ write_of (page_tx c.args.page.bytes.now).writes c.loop-j.j
wrote c =
    let p = c.args.page.bytes.now in
    let behind : c.writes_at-from.result ≡ 8 + 8 * read_count p = omega (arith, c.writes_at-from.ensures, c.reads.ensures, count-reads p) in
    c.write_at-x.ensures ∙ write_from p _ c.loop-j.j behind (omega (arith, c.loop-j-test.true, c.writes-j-end.ensures, count-writes p))

-- it lies within the page
room : (c : In-loop-j) → c.writes_at-from.result + 12 * c.loop-j.j + 12 ≤ 512
room c =
    let p = c.args.page.bytes.now in
    omega (arith, c.writes_at-from.ensures, c.reads.ensures, count-reads p, within c, count-writes p, c.args.page.counted.room)

pub writes_at-from-requires : goal.writes_at-from-requires
writes_at-from-requires c =
    omega (arith, c.reads.ensures, count-reads c.args.page.bytes.now, c.args.page.counted.few-reads)

pub loop-j-init : goal.loop-j-init
loop-j-init c = record { same_lists = (refl, refl, refl); written = writing_begins _ _ _ }

pub overflow_mul-j : goal.overflow_mul-j
overflow_mul-j c = omega (arith, room (goal.at.overflow_mul-j c).In-loop-j)

pub overflow_add-from : goal.overflow_add-from
overflow_add-from c = omega (arith, room (goal.at.overflow_add-from c).In-loop-j)

pub write_at-x-requires : goal.write_at-x-requires
write_at-x-requires c = omega (arith, room (goal.at.write_at-x-requires c).In-loop-j, c.args.page.counted.whole)

pub left-requires : goal.left-requires
left-requires c = record {
  x_value = rw (wrote (goal.at.left-requires c).After-write_at-x) (write_kinds_lem _ c.requires.ready.good _ (within (goal.at.left-requires c).In-loop-j));
  place_bound = c.requires.place_bound;
}

pub store-requires : goal.store-requires
store-requires c =
    let k = ap (λ (x : Write). x.key) (wrote (goal.at.store-requires c).After-write_at-x) in
    let l = (below (keys (held c.args.state.now)) (page_tx c.args.page.bytes.now) c.requires.ready.within).writes c.loop-j.j (within (goal.at.store-requires c).In-loop-j) in
    record {
      level = writing_level c.loop-j.invariant.written c.requires.level;
      key_in_bounds = omega (arith, k, l, (writing_kept c.loop-j.invariant.written).blocks);
    }

pub loop-j-preserved : goal.loop-j-preserved
loop-j-preserved c = record {
  same_lists = search rules;
  written =
      writing_turns c.loop-j.invariant.written c.write_at-x.result (held c.store.new.self) (within (goal.at.loop-j-preserved c).In-loop-j) (wrote (goal.at.loop-j-preserved c).After-write_at-x)
      (c.store.ensures.left ∙ ap (store (held c.loop-j.state) c.write_at-x.result.key) c.left.ensures);
}

pub returns : goal.returns
returns c = record {
  same_lists = c.loop-j.invariant.same_lists;
  left = writing_ends c.loop-j.invariant.written (omega (arith, c.loop-j-test.false, c.writes-j-end.ensures));
}
