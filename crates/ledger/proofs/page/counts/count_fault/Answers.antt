use Rattle.refusals.proofs.Answers.{told}
use mathlib.Core.Path.{◌∙◌}
use native.Mathlib.Omega.{arith}
use Rattle.refusals.specs.Fault.{first}
use Rattle.ledger.specs.Page.{size, count_rows}
use borrow.Author.Tests.{le-ltb, lt-ltb}
use Rattle.ledger.proofs.page.counts.count_fault.Goals as goal

pub returns-then-r-gt-MOST_ENTRIES : goal.returns-then-r-gt-MOST_ENTRIES
unfolding count_rows first
returns-then-r-gt-MOST_ENTRIES c = (told c.at.ensures) ∙ rw (lt-ltb 32 c.args.r (omega arith))

pub returns-then-w-gt-MOST_ENTRIES : goal.returns-then-w-gt-MOST_ENTRIES
unfolding count_rows first
returns-then-w-gt-MOST_ENTRIES c =
    let a = c.args in
    (told c.at-then-w-gt-MOST_ENTRIES.ensures) ∙ rw (le-ltb 32 a.r (omega arith), lt-ltb 32 a.w (omega arith))

pub returns-then-spare_at-gt-CHECK : goal.returns-then-spare_at-gt-CHECK
unfolding count_rows first
returns-then-spare_at-gt-CHECK c =
    let a = c.args in
    (told c.at-then-spare_at-gt-CHECK.ensures) ∙ rw (le-ltb 32 a.r (omega arith), le-ltb 32 a.w (omega arith), lt-ltb 500 (size a.r a.w) (omega arith))

pub returns : goal.returns
unfolding count_rows first
returns c =
    let a = c.args in
    rw (le-ltb 32 a.r (omega arith), le-ltb 32 a.w (omega arith), le-ltb 500 (size a.r a.w) (omega arith))
