use mathlib.Core.Path.{◌≡◌, refl, sym, ap, ◌∙◌}
use Prim.Native.Nat.{◌+◌}
use native.Mathlib.Omega.{arith}
use lib.ListN.{length}
use Rattle.lists.specs.Tables.{tab}
use Rattle.ledger.specs.Page.{page_tx}
use Rattle.ledger.specs.State.{held}
use Rattle.ledger.specs.Commit.{stamp, write}
use Rattle.ledger.specs.Inner.{txs_in, applied}
use borrow.Author.Rules.{rules}
use Rattle.ledger.proofs.Pages.{good-counted}
use Rattle.ledger.proofs.Commits.{Kept, kept_level, applied-kept, applied-next}
use Rattle.ledger.proofs.commit.apply_pages.Goals as goal
use Rattle.ledger.proofs.commit.apply_pages.Goals.{After-apply, At-loop-i}
use Rattle.ledger.proofs.commit.apply_pages.Invariants.{named}

kept : (c : At-loop-i) → Kept (held c.args.state.now) (held c.loop-i.state)
kept c = rw c.loop-i.invariant.left (applied-kept _ 0 (held c.args.state.now) _)

-- a turn leaves one page more
turns : (c : After-apply) → held c.apply.new.state
    ≡ applied c.args.n 0 (held c.args.state.now) (tab (c.loop-i.i + 1) (named c.args.batch.now c.args.order.now))
turns c =
    let tx = named c.args.batch.now c.args.order.now in
    c.apply.ensures.left
    ∙ ap (λ x. write (stamp c.args.n c.loop-i.i) (held c.loop-i.state) (page_tx x).writes) c.page_at-bytes.ensures
    ∙ ap (λ x. write (stamp c.args.n c.loop-i.i) x (tx c.loop-i.i).writes) c.loop-i.invariant.left
    ∙ sym (applied-next tx c.args.n c.loop-i.i (held c.args.state.now))

pub loop-i-init : goal.loop-i-init
unfolding applied tab
loop-i-init c = record { same_lists = (refl, refl, refl); left = refl }

pub overflow_cast-place : goal.overflow_cast-place
overflow_cast-place c = omega (arith, c.loop-i-test.true, c.requires.few, c.type_inv.order c.loop-i.i)

pub page_at-bytes-requires : goal.page_at-bytes-requires
page_at-bytes-requires c =
    omega (arith, c.requires.by_index c.loop-i.i c.loop-i-test.true, c.requires.batch.whole)

pub invariant_of-page : goal.invariant_of-page
invariant_of-page c =
    record { counted = rw c.page_at-bytes.ensures (good-counted _ (c.requires.batch.each _ (c.requires.by_index c.loop-i.i c.loop-i-test.true)).good) }

pub apply-requires : goal.apply-requires
apply-requires c = record {
  ready = rw (c.page_at-bytes.ensures, (kept (goal.at.apply-requires c).At-loop-i).blocks) (c.requires.batch.each _ (c.requires.by_index c.loop-i.i c.loop-i-test.true));
  level = kept_level (held c.args.state.now) (held c.loop-i.state) (kept (goal.at.apply-requires c).At-loop-i) c.requires.level;
  place_bound = omega (arith, c.loop-i-test.true, c.requires.few);
}

pub loop-i-preserved : goal.loop-i-preserved
loop-i-preserved c = record {
  same_lists = search rules;
  left = turns (goal.at.loop-i-preserved c).After-apply;
}

pub returns : goal.returns
unfolding txs_in
returns c =
    let e : c.loop-i.i ≡ length c.args.order.now = omega (arith, c.loop-i-test.false) in
    record {
      same_lists = c.loop-i.invariant.same_lists;
      left = c.loop-i.invariant.left ∙ ap (λ j. applied c.args.n 0 (held c.args.state.now) (tab j (named c.args.batch.now c.args.order.now))) e;
    }
