use borrow.Author.Rules.{rules}
use mathlib.Core.Path.{◌≡◌, refl, sym, ap, ◌∙◌}
use mathlib.Core.Bool.{Bool, true, false, cond}
use mathlib.Core.List.{List}
use Prim.Native.Nat.{ℕ, ◌+◌, ◌≤◌}
use native.Mathlib.Nat.{add-zero}
use native.Mathlib.Omega.{arith}
use lib.ListN.{set}
use Rattle.std.specs.Slice.Iter.{chunks_exact_rest, chunks_exact_size}
use Rattle.ledger.specs.Gate.{tx_at}
use Rattle.ledger.specs.Page.{page_tx, page_at}
use Rattle.ledger.specs.Commit.{passes}
use Rattle.ledger.specs.declared.Version.{Version}
use Rattle.ledger.specs.Inner.{Ready}
use Rattle.ledger.specs.State.{held}
use Rattle.ledger.proofs.Pages.{good-counted}
use Rattle.ledger.proofs.Commits.{Kept, kept_level, Committing, committing_begins, committing_kept, committing_turns, committing_ends}
use Rattle.ledger.proofs.Walked.{walking_begins, Walked, walked, walked_all}
use Rattle.ledger.proofs.commit.commit_pages.Goals as goal
use Rattle.ledger.proofs.commit.commit_pages.Goals.{After-commit_page, In-Some}

-- the page of a turn
page : (c : In-Some) → Walked c.args.batch.now c.in-Some.bytes.now (chunks_exact_size c.next.new.self.iter) (chunks_exact_rest c.next.new.self.iter) c.loop-i.i-iterator.count
page c = walked c.loop-i.invariant.walking c.in-Some.ensures.steps.0

-- its place is one of a batch
place : (c : In-Some) → c.in-Some.i ≤ 63
place c = omega (arith, (page c).within, c.requires.batch.few, c.in-Some.ensures.steps.1)

kept : (c : In-Some) → Kept (held c.args.state.now) (held c.loop-i.state)
kept c = committing_kept _ _ _ _ _ _ _ _ c.loop-i.invariant.committing

-- what is so of a page of the batch is so of its bytes
ready_at : {k n : ℕ} {p b : List ℕ} → Ready k p → n ≡ k → b ≡ p → Ready n b
ready_at r e f = rw (e, f) r

-- the bytes of the page that a promise of commit_page speaks of
abbrev bytes_of : {r : Bool} (held : ℕ → Version) (b : List ℕ) → r ≡ passes held (page_tx b) → List ℕ
bytes_of _ b _ = b

-- the page that commit_page is called on has the bytes of page i, whatever they were read by
is-page : (c : After-commit_page)
    → Walked c.args.batch.now c.in-Some.bytes.now (chunks_exact_size c.next.new.self.iter) (chunks_exact_rest c.next.new.self.iter) c.loop-i.i-iterator.count
    → bytes_of _ _ c.commit_page.ensures.value ≡ page_at c.args.batch.now c.loop-i.i-iterator.count
is-page c p = let i = c.in-Some.ensures.steps.1 in cc

-- a turn that found b, and stored the verdict and the count for it
next : (c : After-commit_page) (b : Bool) (count : ℕ) (verdicts : List ℕ)
    → Walked c.args.batch.now c.in-Some.bytes.now (chunks_exact_size c.next.new.self.iter) (chunks_exact_rest c.next.new.self.iter) c.loop-i.i-iterator.count
    → c.commit_page.result ≡ b
    → count ≡ c.loop-i.count + cond b 1 0
    → verdicts ≡ set c.loop-i.verdicts c.in-Some.i (cond b 0 3)
    → Committing (tx_at c.args.batch.now) (held c.args.state.now) c.args.n c.args.verdicts.now (c.loop-i.i-iterator.count + 1) count
    (held c.commit_page.new.state) verdicts
next c b count verdicts p e f g =
    let i = c.in-Some.ensures.steps.1 in
    committing_turns _ _ _ _ _ _ _ _ c.loop-i.invariant.committing _ b count (held c.commit_page.new.state) verdicts
    (omega (arith, p.within, c.requires.enough))
    (ap page_tx (is-page c p))
    (sym e ∙ c.commit_page.ensures.value)
    (rw i at c.commit_page.ensures.left_after)
    f
    (rw i at g)

pub loop-i-init : goal.loop-i-init
loop-i-init c =
    let f = c.enumerate-i-items.ensures in
    rw (c.into_iter-i-iterator.ensures.into_iter_gives, f.source, f.count)
    (record {
      walking = walking_begins c.chunks_exact.ensures.size c.chunks_exact.ensures.rest;
      same_lists = (refl, refl, refl);
      few = omega arith;
      committing = committing_begins _ _ _ _;
    })

pub invariant_of-page : goal.invariant_of-page
invariant_of-page c =
    let p = page (goal.at.invariant_of-page c).In-Some in
    let i = c.in-Some.ensures.steps.1 in
    record { counted = good-counted _ (ready_at (c.requires.batch.each _ p.within) refl (cc)).good }

pub overflow_cast-i : goal.overflow_cast-i
overflow_cast-i c = omega (arith, place (goal.at.overflow_cast-i c).In-Some)

pub commit_page-requires : goal.commit_page-requires
commit_page-requires c =
    let at = goal.at.commit_page-requires c in
    let p = page at.In-Some in
    let k = kept at.In-Some in
    let i = c.in-Some.ensures.steps.1 in
    record {
      ready = ready_at (c.requires.batch.each _ p.within) k.blocks (cc);
      level = kept_level (held c.args.state.now) (held c.loop-i.state) k c.requires.level;
      i_bound = place at.In-Some;
    }

pub loop-i-preserved-then-commit_page : goal.loop-i-preserved-then-commit_page
loop-i-preserved-then-commit_page c =
    let at = goal.at.loop-i-preserved-then-commit_page c in
    let p = page at.In-Some in
    rw c.in-Some.ensures.steps.2
    (record { walking = p.walking; same_lists = search rules; few = omega (arith, c.loop-i.invariant.few); committing = next at.After-commit_page true _ _ p c.if-commit_page.true refl refl })

pub loop-i-preserved : goal.loop-i-preserved
loop-i-preserved c =
    let at = goal.at.loop-i-preserved c in
    let p = page at.In-Some in
    rw c.in-Some.ensures.steps.2
    (record { walking = p.walking; same_lists = search rules; few = omega (arith, c.loop-i.invariant.few); committing = next at.After-commit_page false _ _ p c.if-commit_page.false (sym (add-zero c.loop-i.count)) refl })

pub returns : goal.returns
returns c =
    let w = c.loop-i.invariant.walking in
    record {
      same_lists = c.loop-i.invariant.same_lists;
      value = committing_ends _ _ _ _ _ _ _ _ c.loop-i.invariant.committing _ (omega (arith, w.within, walked_all w c.in-None.ensures.steps.0.1.0));
    }
