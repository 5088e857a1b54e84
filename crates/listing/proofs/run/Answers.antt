-- What is read lies within the page buffer, and the text is that of 1024 absent keys.
use Rattle.report.specs.Program.{start}
use Rattle.listing.proofs.run.Goals as goal

pub returns-in_default : goal.returns-in_default
unfolding start
returns-in_default g c = record { within = c.read_input-read.ensures; text_after = c.answer-count.ensures.text_after }
