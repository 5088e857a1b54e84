use borrow.Author.Rules.{rules}
use mathlib.Core.Path.{refl, sym, ap, ◌∙◌}
use Rattle.ledger.specs.Page.{page_tx}
use Rattle.ledger.specs.State.{versions, held}
use Rattle.ledger.specs.Commit.{passes}
use Rattle.ledger.proofs.Commits.{page-fails, page-passes}
use Rattle.ledger.proofs.commit.commit_page.Goals as goal

pub returns-then-not-passes : goal.returns-then-not-passes
returns-then-not-passes c =
    let a = c.args in
    let f = c.passes.ensures ∙ ap (λ s. passes (versions s) (page_tx a.page.bytes.now)) c.lent.ensures in
    record {
      same_lists = (refl, refl, refl);
      value = sym c.if-not-passes.true ∙ f;
      left_after = page-fails a.n a.i _ _ (sym f ∙ c.if-not-passes.true);
    }

pub returns : goal.returns
returns c =
    let a = c.args in
    let f = c.passes.ensures ∙ ap (λ s. passes (versions s) (page_tx a.page.bytes.now)) c.lent.ensures in
    record {
      same_lists = search rules;
      value = sym c.if-not-passes.false ∙ f;
      left_after = page-passes a.n a.i _ _ (held c.apply.new.state) (sym f ∙ c.if-not-passes.false) c.apply.ensures.left;
    }
