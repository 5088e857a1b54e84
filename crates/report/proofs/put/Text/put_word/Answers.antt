use Rattle.lists.specs.Ascii.{ascii}
use Rattle.report.proofs.Parts.{row_spells, spelt-put}
use Rattle.report.proofs.put.Text.put_word.Goals as goal

pub returns-in-Some : goal.returns-in-Some
unfolding ascii
returns-in-Some c =
    let found = c.in-Some.ensures.lookup in
    spelt-put (row_spells _ _ found.3.0 found.1) c.put_bytes.ensures
