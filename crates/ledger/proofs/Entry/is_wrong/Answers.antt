use Rattle.ledger.specs.Value.{is_zero}
use Rattle.ledger.specs.Version.{is_present}
use Rattle.ledger.proofs.Entries.{wrong_present, wrong_valued, wrong_deleted, wrong_other}
use Rattle.ledger.proofs.Zero.{is_zero_lem, not-zero}
use mathlib.Core.Bool.{true, false, not}
use mathlib.Core.Path.{◌≡◌, sym, ap, ◌∙◌}
use native.Mathlib.Omega.{arith}
use Rattle.ledger.proofs.Entry.is_wrong.Goals as goal
use Rattle.ledger.proofs.Entry.is_wrong.Goals.{Else-self-ne0, Else-is_present}

-- `is_wrong`: of a present entry the block decides; of any other the value, then whether it is deleted or absent.
not-present : (c : Else-is_present) → is_present c.args.self.version ≡ false
not-present c = sym c.is_present.ensures ∙ c.if-is_present.false

zero : (c : Else-self-ne0) → is_zero c.args.self.value ≡ true
zero c =
    is_zero_lem c.args.self.value (record { sfits = omega arith }) (omega arith)

pub returns-then-is_present : goal.returns-then-is_present
returns-then-is_present c =
    let e = c.args.self in
    wrong_present _ e.version e.value (sym c.is_present.ensures ∙ c.if-is_present.true)

pub returns-then-self-ne0 : goal.returns-then-self-ne0
returns-then-self-ne0 c =
    let a = c.args in
    wrong_valued a.n a.self.version a.self.value (not-present (goal.at.returns-then-self-ne0 c).Else-is_present)
    (not-zero a.self.value (record { sfits = omega arith }) c.if-self-ne0.true)

pub returns-then-is_deleted : goal.returns-then-is_deleted
returns-then-is_deleted c =
    let e = c.args.self in
    wrong_deleted _ e.version e.value (not-present (goal.at.returns-then-is_deleted c).Else-is_present) (zero (goal.at.returns-then-is_deleted c).Else-self-ne0) (sym c.is_deleted.ensures ∙ c.if-is_deleted.true)

pub returns : goal.returns
returns c =
    let a = c.args in
    ap not c.same.ensures
    ∙ wrong_other a.n a.self.version a.self.value (not-present (goal.at.returns c).Else-is_present) (zero (goal.at.returns c).Else-self-ne0) (sym c.is_deleted.ensures ∙ c.if-is_deleted.false)
