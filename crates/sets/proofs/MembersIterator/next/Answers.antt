use mathlib.Core.Path.{◌≡◌, sym, ap, ◌∙◌}
use mathlib.Core.List.{[], ◌∷◌}
use borrow.Author.Rules.{rules}
use native.Mathlib.Omega.{arith}
use Prim.Native.Nat.{◌<◌}
use lib.ListN.{length}
use Rattle.lists.proofs.Tests.{clash}
use Rattle.sets.specs.Set.{members}
use Rattle.sets.proofs.Laws.{none}
use Rattle.sets.proofs.Listed.{listed-none, listed-lowest}
use Rattle.sets.proofs.MembersIterator.next.Goals as goal
use Rattle.sets.proofs.MembersIterator.next.Goals.{After-drop_lowest-self-inside}

-- the lowest comes first, and the others are left
lowest_first : (c : After-drop_lowest-self-inside) → c.args.self.now ≡ c.in_ok-i.i ∷ members c.drop_lowest-self-inside.result 64
lowest_first c =
    let l = c.in_ok-i.ensures.value in
    sym c.self.view_is ∙ listed-lowest _ _ _ 64 l.small l.isin l.least (c.drop_lowest-self-inside.ensures _ l)

pub returns-in_err-i-clause-steps : goal.returns-in_err-i-clause-steps
returns-in_err-i-clause-steps c =
    let empty : 0 < c.self.inside.left → ⊥ = λ h. clash (sym (c.in_err-i.ensures.some.1 h)) in
    let e : c.self.inside.left ≡ 0 = omega arith in
    let gone : c.args.self.now ≡ [] = sym c.self.view_is ∙ rw e (listed-none 0 64 (λ j h. none j)) in
    rw c.from_residual.ensures (gone, gone)

pub returns-clause-steps : goal.returns-clause-steps
returns-clause-steps c = lowest_first (goal.at.returns-clause-steps c).After-drop_lowest-self-inside

pub returns-clause-goes : goal.returns-clause-goes
returns-clause-goes c =
    let shorter = ap length (lowest_first (goal.at.returns-clause-goes c).After-drop_lowest-self-inside) in
    search rules
