use Rattle.refusals.proofs.Answers.{told}
use Rattle.ledger.proofs.Gated.{state_twelve, state-rest, Sized, sized}
use Rattle.ledger.specs.State.{lent, entry, wrong_entry, wrong_lengths}
use Rattle.refusals.proofs.Rows.{row_found, row_missed}
use Rattle.lists.proofs.Searches.{given_some}
use mathlib.Core.Bool.{false}
use mathlib.Core.Path.{◌≡◌, sym, ◌∙◌}
use native.Mathlib.Omega.{arith}
use Rattle.ledger.proofs.state.State.fault.Goals as goal
use Rattle.ledger.proofs.state.State.fault.Goals.{Else-has_wrong_lengths}

no-twelve : (c : Else-has_wrong_lengths) → wrong_lengths (lent c.args.self) ≡ false
no-twelve c = sym c.has_wrong_lengths.ensures ∙ c.if-has_wrong_lengths.false

fits : (c : Else-has_wrong_lengths) → Sized (lent c.args.self)
fits c = sized _ (no-twelve c)

pub returns-then-has_wrong_lengths : goal.returns-then-has_wrong_lengths
returns-then-has_wrong_lengths c =
    (told c.at.ensures) ∙ sym (state_twelve (lent c.args.self) c.args.n (sym c.has_wrong_lengths.ensures ∙ c.if-has_wrong_lengths.true))

pub first_wrong-requires : goal.first_wrong-requires
first_wrong-requires c =
    (fits (goal.at.first_wrong-requires c).Else-has_wrong_lengths).level

pub overflow_cast-key : goal.overflow_cast-key
overflow_cast-key c =
    let z = (fits (goal.at.overflow_cast-key c).Else-has_wrong_lengths).few in
    let g = given_some _ 0 _ _ c.in-Some.ensures in
    omega (arith, g.1, z)

pub returns-in-Some : goal.returns-in-Some
returns-in-Some c =
    told c.at-in-Some.ensures ∙ sym (state-rest (lent c.args.self) c.args.n (no-twelve (goal.at.returns-in-Some c).Else-has_wrong_lengths) ∙ row_found 13 _ (λ k. wrong_entry c.args.n (entry (lent c.args.self) k)) _ c.in-Some.ensures)

pub returns : goal.returns
returns c =
    sym (state-rest (lent c.args.self) c.args.n (no-twelve (goal.at.returns c).Else-has_wrong_lengths) ∙ row_missed 13 _ (λ k. wrong_entry c.args.n (entry (lent c.args.self) k)) c.in_default.ensures)
