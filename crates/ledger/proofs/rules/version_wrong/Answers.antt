use mathlib.Core.Path.{◌≡◌, sym, ◌∙◌}
use mathlib.Core.Bool.{false}
use native.Mathlib.Omega.{arith}
use borrow.Author.Tests.{eq-eqb, ne_eqb}
use Rattle.ledger.specs.Version.{is_present, is_deleted}
use Rattle.ledger.proofs.rules.version_wrong.Goals as goal
use Rattle.ledger.proofs.rules.version_wrong.Goals.{Else-is_deleted, Else-is_present}

-- `version_wrong`: present decides first, then deleted, then the block and the place of absent.
not-present : (c : Else-is_present) → is_present c.args.v ≡ false
not-present c = sym c.is_present.ensures ∙ c.if-is_present.false

not-deleted : (c : Else-is_deleted) → is_deleted c.args.v ≡ false
not-deleted c = sym c.is_deleted.ensures ∙ c.if-is_deleted.false

pub returns-then-is_present : goal.returns-then-is_present
returns-then-is_present c = rw (sym c.is_present.ensures ∙ c.if-is_present.true)

pub returns-then-is_deleted : goal.returns-then-is_deleted
returns-then-is_deleted c = rw (not-present (goal.at.returns-then-is_deleted c).Else-is_present, sym c.is_deleted.ensures ∙ c.if-is_deleted.true)

pub returns-then-v-ne-NO_BLOCK : goal.returns-then-v-ne-NO_BLOCK
returns-then-v-ne-NO_BLOCK c =
    rw (not-present (goal.at.returns-then-v-ne-NO_BLOCK c).Else-is_present, not-deleted (goal.at.returns-then-v-ne-NO_BLOCK c).Else-is_deleted, ne_eqb _ 0 c.if-v-ne-NO_BLOCK.true)

pub returns : goal.returns
returns c =
    rw (not-present (goal.at.returns c).Else-is_present, not-deleted (goal.at.returns c).Else-is_deleted, eq-eqb c.args.v.block 0 (omega arith))
