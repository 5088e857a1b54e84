use mathlib.Core.Path.{◌≡◌, refl, sym, ap, ◌∙◌}
use mathlib.Core.Bool.{not, ◌&&◌, ◌||◌}
use Prim.Native.Nat.{◌+◌, ◌-◌}
use native.Mathlib.Omega.{arith}
use lib.Dec.{eqb}
use lib.ListN.{length, get_or}
use borrow.Author.Tests.{eq-eqb, ne_eqb}
use Rattle.lists.specs.Search.{some_in}
use Rattle.tonnage.specs.Text.{other}
use Rattle.tonnage.proofs.Laying.{start-one, short, tests}
use Rattle.tonnage.proofs.Decimal.{only_digits}
use Rattle.tonnage.proofs.form.laid.Goals as goal
use Rattle.tonnage.proofs.form.laid.Goals.{Joined-all, Joined-start-point, then-all+then-text-start-ne48, then-all+else-text-start-ne48, else-all, then-start-point, else-start-point}

-- what the tests are joined to, up to that of needless zeros, and up to the comma
lean : (c : Joined-all) → c.if-all.value ≡ (c.all.result && (not (eqb (get_or c.args.text.now c.start-start.result 0) 48) || eqb (c.start-start.result + 1) (length c.args.text.now - 4)))
lean c = elim c.if-all.branch [
  | then-all+then-text-start-ne48 w ↦ w.value-is ∙ rw (w.if-all.true, ne_eqb _ _ w.if-text-start-ne48.true)
  | then-all+else-text-start-ne48 w ↦ w.value-is ∙ rw (w.if-all.true, eq-eqb _ _ w.if-text-start-ne48.false)
  | else-all w ↦ w.value-is ∙ rw w.if-all.false
]

comma : (c : Joined-start-point) → c.if-start-point.value ≡ (c.if-all.value && eqb (get_or c.args.text.now (length c.args.text.now - 4) 0) 44)
comma c = elim c.if-start-point.branch [
  | then-start-point w ↦ w.value-is ∙ rw w.if-start-point.true
  | else-start-point w ↦ w.value-is ∙ rw w.if-start-point.false
]

pub returns-then-text-start : goal.returns-then-text-start
returns-then-text-start c = short _ _ c.start-start.ensures c.if-text-start.true

pub returns-then-text-point-eq44 : goal.returns-then-text-point-eq44
returns-then-text-point-eq44 c =
    let g = goal.at.returns-then-text-point-eq44 c in
    let t = c.args.text.now in
    let s = c.start-start in
    let low = start-one t _ s.ensures in
    ap (λ b. b && c.all-then-text-point-eq44.result) (sym c.if-text-point-eq44.true ∙ comma g.Joined-start-point ∙ ap (λ b. b && eqb (get_or t (length t - 4) 0) 44) (lean g.Joined-all))
    ∙ tests t _ s.ensures (omega arith) _ _
    (c.all.ensures ∙ only_digits t s.result (length t - 4) (omega arith) (omega arith))
    (c.all-then-text-point-eq44.ensures ∙ only_digits t (length t - 4 + 1) (length t) (omega arith) (omega arith))

pub returns-else-text-point-eq44 : goal.returns-else-text-point-eq44
returns-else-text-point-eq44 c =
    let g = goal.at.returns-else-text-point-eq44 c in
    let t = c.args.text.now in
    let s = c.start-start in
    let part = not (some_in (other t) (length t - 4 + 1) (length t)) in
    c.if-text-point-eq44.false
    ∙ ap (λ b. b && part) (sym c.if-text-point-eq44.false ∙ comma g.Joined-start-point ∙ ap (λ b. b && eqb (get_or t (length t - 4) 0) 44) (lean g.Joined-all))
    ∙ tests t _ s.ensures (omega arith) _ part
    (c.all.ensures ∙ only_digits t s.result (length t - 4) (omega arith) (omega arith))
    refl
