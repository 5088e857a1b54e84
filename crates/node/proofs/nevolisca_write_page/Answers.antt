use mathlib.Core.Path.{◌≡◌, sym, ap, ◌∙◌}
use native.Mathlib.Omega.{arith}
use borrow.Author.Rules.{rules}
use Rattle.refusals.specs.Fault.{clear, first, finding}
use Rattle.ledger.specs.Page.{count_rows}
use Rattle.ledger.proofs.Faults.{Roomy, roomy}
use Rattle.ledger.proofs.Back.{Drafted}
use Rattle.node.specs.Lent.{lent_tx, put_left}
use Rattle.node.proofs.Lending.{lent-refused, lent_drafted, lent_written}
use Rattle.node.proofs.nevolisca_write_page.Goals as goal
use Rattle.node.proofs.nevolisca_write_page.Goals.{After-lay_writes, In_default}

-- the counts are good
none : (c : In_default) → first (count_rows c.count-r.result c.count-w.result) ≡ clear
none c = sym c.count_fault.ensures ∙ ap finding c.in_default.is

room : (c : In_default) → Roomy c.count-r.result c.count-w.result
room c = roomy _ _ (none c)

-- what is laid out
draft : (c : After-lay_writes) → Drafted (lent_tx (record { head = c.args.head.now; read_keys = c.args.read_keys.now; read_places = c.args.read_places.now; read_blocks = c.args.read_blocks.now; write_keys = c.args.write_keys.now; write_kinds = c.args.write_kinds.now; write_values = c.args.write_values.now })) c.lay_writes.new.p
unfolding lent_tx
draft c =
    lent_drafted (record { head = c.args.head.now; read_keys = c.args.read_keys.now; read_places = c.args.read_places.now; read_blocks = c.args.read_blocks.now; write_keys = c.args.write_keys.now; write_kinds = c.args.write_kinds.now; write_values = c.args.write_values.now }) _ _ c.count-r.ensures c.count-w.ensures (sym c.count_fault.ensures ∙ ap finding c.in_default.is) _ _ _ _
    c.put_head.ensures.p_after c.lay_reads.ensures.p_after c.writes_at.ensures c.lay_writes.ensures.p_after
    c.put_head.ensures.ticket_bound c.lay_reads.ensures.by_index c.lay_writes.ensures.by_index

pub returns-in-Err : goal.returns-in-Err
unfolding lent_tx
returns-in-Err c =
    rw c.refused.ensures
    (ap put_left (lent-refused (record { head = c.args.head.now; read_keys = c.args.read_keys.now; read_places = c.args.read_places.now; read_blocks = c.args.read_blocks.now; write_keys = c.args.write_keys.now; write_kinds = c.args.write_kinds.now; write_values = c.args.write_values.now }) _ _ c.count-r.ensures c.count-w.ensures _ _ _ _ (sym c.count_fault.ensures ∙ ap finding c.in-Err.is)))

pub put_head-requires : goal.put_head-requires
put_head-requires c = let r = room (goal.at.put_head-requires c).In_default in (search rules, r.few-reads, r.few-writes)

pub lay_reads-requires : goal.lay_reads-requires
lay_reads-requires c =
    let r = room (goal.at.lay_reads-requires c).In_default in
    record {
      count_bound = (r.few-reads, omega (arith, r.room, c.put_head.auto.p));
      keys_len = search rules;
    }

pub writes_at-requires : goal.writes_at-requires
writes_at-requires c = (room (goal.at.writes_at-requires c).In_default).few-reads

pub lay_writes-requires : goal.lay_writes-requires
lay_writes-requires c =
    let r = room (goal.at.lay_writes-requires c).In_default in
    record {
      count_bound = (r.few-writes, omega (arith, r.room, c.put_head.auto.p, c.lay_reads.auto.p, c.writes_at.ensures));
      keys_len = search rules;
    }

pub invariant_of-page : goal.invariant_of-page
invariant_of-page c = record { counted = (draft (goal.at.invariant_of-page c).After-lay_writes).counted }

pub returns-in-Ok : goal.returns-in-Ok
unfolding lent_tx
returns-in-Ok c =
    ap put_left (c.in-Ok.ensures ∙ lent_written (record { head = c.args.head.now; read_keys = c.args.read_keys.now; read_places = c.args.read_places.now; read_blocks = c.args.read_blocks.now; write_keys = c.args.write_keys.now; write_kinds = c.args.write_kinds.now; write_values = c.args.write_values.now }) _ _ c.count-r.ensures c.count-w.ensures (none (goal.at.returns-in-Ok c).In_default) _ _ _ (draft (goal.at.returns-in-Ok c).After-lay_writes))

pub returns-in-Err-write_laid : goal.returns-in-Err-write_laid
unfolding lent_tx
returns-in-Err-write_laid c =
    rw c.refused-in-Err-write_laid.ensures
    (ap put_left (c.in-Err-write_laid.ensures ∙ lent_written (record { head = c.args.head.now; read_keys = c.args.read_keys.now; read_places = c.args.read_places.now; read_blocks = c.args.read_blocks.now; write_keys = c.args.write_keys.now; write_kinds = c.args.write_kinds.now; write_values = c.args.write_values.now }) _ _ c.count-r.ensures c.count-w.ensures (none (goal.at.returns-in-Err-write_laid c).In_default) _ _ _ (draft (goal.at.returns-in-Err-write_laid c).After-lay_writes)))
