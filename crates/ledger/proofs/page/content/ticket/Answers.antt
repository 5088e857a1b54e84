use Rattle.ledger.specs.Page.{page_tx}
use Rattle.ledger.proofs.page.content.ticket.Goals as goal

pub returns : goal.returns
unfolding page_tx
returns c = c.le4.ensures
