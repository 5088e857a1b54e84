use Rattle.ledger.specs.State.{store}
use borrow.Author.Rules.{rules}
use Rattle.ledger.proofs.state.StateMut.store.Goals as goal

pub returns : goal.returns
unfolding store
returns c = search rules
