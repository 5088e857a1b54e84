use mathlib.Core.Path.{sym}
use Rattle.ledger.proofs.OnPage.{count-writes}
use Rattle.ledger.proofs.page.content.Page.writes.Goals as goal

pub returns : goal.returns
returns c = sym (count-writes _)
