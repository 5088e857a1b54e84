use Rattle.refusals.proofs.Answers.{told}
use Rattle.ledger.proofs.Gated.{too_long, too_odd, not_wrong}
use Rattle.ledger.specs.Gate.{bytes_row}
use Rattle.refusals.proofs.Rows.{row_there, one-clear}
use mathlib.Core.List.{[]}
use mathlib.Core.Path.{sym, ◌∙◌}
use Rattle.ledger.proofs.batch.length_fault.Goals as goal

pub returns-then-batch-gt-MOST_BYTES : goal.returns-then-batch-gt-MOST_BYTES
returns-then-batch-gt-MOST_BYTES c =
    let b = c.args.batch.now in
    (told c.at.ensures) ∙ sym (row_there (bytes_row b) [] (too_long b c.if-batch-gt-MOST_BYTES.true))

pub returns-then-batch-ne0 : goal.returns-then-batch-ne0
returns-then-batch-ne0 c =
    let b = c.args.batch.now in
    (told c.at-then-batch-ne0.ensures) ∙ sym (row_there (bytes_row b) [] (too_odd b c.if-batch-gt-MOST_BYTES.false c.if-batch-ne0.true))

pub returns : goal.returns
returns c =
    let b = c.args.batch.now in
    sym (one-clear 11 0 _ (not_wrong b c.if-batch-gt-MOST_BYTES.false c.if-batch-ne0.false))
