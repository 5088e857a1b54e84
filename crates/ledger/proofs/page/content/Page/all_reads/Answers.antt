use Rattle.ledger.proofs.Listed.{reads_lie, reads_listed}
use Rattle.ledger.proofs.page.content.Page.all_reads.Goals as goal

pub invariant_of-result : goal.invariant_of-result
invariant_of-result c = record { lie = reads_lie _ _ c.reads.ensures c.args.self.counted }

pub returns-clause-are : goal.returns-clause-are
returns-clause-are c = reads_listed _ _ c.reads.ensures
