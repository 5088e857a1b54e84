use Rattle.ledger.specs.State.{lent, entry, wrong_entry}
use Rattle.ledger.proofs.Entries.{none_wrong}
use Rattle.lists.proofs.Loops.{begins, passes, gives-found, gives-none}
use Rattle.lists.proofs.Searches.{none}
use native.Mathlib.Nat.{le_refl}
use mathlib.Core.Path.{◌≡◌, refl, sym, ap, ◌∙◌}
use native.Mathlib.Omega.{arith}
use Rattle.ledger.proofs.state.State.first_wrong.Goals as goal
use Rattle.ledger.proofs.state.State.first_wrong.Goals.{After-is_wrong}

-- the code's test, as the search's
test : (c : After-is_wrong)
    → let a = c.args in
    c.is_wrong.result ≡ wrong_entry a.n (entry (lent a.self) c.loop-k.k)
test c = c.is_wrong.ensures ∙ ap (wrong_entry c.args.n) c.entry.ensures

pub returns-then-is_present_throughout : goal.returns-then-is_present_throughout
returns-then-is_present_throughout c =
    let a = c.args in
    let none-there = none _ 0 _ _ (none_wrong (lent a.self) a.n (sym c.is_present_throughout.ensures ∙ c.if-is_present_throughout.true)) (le_refl _) in
    rw none-there refl

pub loop-k-init : goal.loop-k-init
loop-k-init c = begins _ _ _ (omega arith)

pub returns-then-is_wrong : goal.returns-then-is_wrong
returns-then-is_wrong c =
    gives-found c.loop-k.invariant c.loop-k-test.true (sym (test (goal.at.returns-then-is_wrong c).After-is_wrong) ∙ c.if-is_wrong.true)

pub loop-k-preserved : goal.loop-k-preserved
loop-k-preserved c =
    passes c.loop-k.invariant c.loop-k-test.true (sym (test (goal.at.loop-k-preserved c).After-is_wrong) ∙ c.if-is_wrong.false)

pub returns : goal.returns
returns c = gives-none c.loop-k.invariant c.loop-k-test.false
