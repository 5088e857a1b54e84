use mathlib.Core.Path.{sym}
use Rattle.ledger.proofs.OnPage.{count-reads}
use Rattle.ledger.proofs.page.content.Page.reads.Goals as goal

pub returns : goal.returns
returns c = sym (count-reads _)
