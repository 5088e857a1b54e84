use native.Mathlib.Omega.{arith}
use Rattle.ledger.proofs.OnPage.{count-reads}
use Rattle.ledger.proofs.Listed.{writes_lie, writes_listed}
use Rattle.ledger.proofs.page.content.Page.all_writes.Goals as goal

pub writes_at-requires : goal.writes_at-requires
writes_at-requires c = omega (arith, c.reads.ensures, count-reads c.args.self.bytes.now, c.args.self.counted)

pub invariant_of-result : goal.invariant_of-result
invariant_of-result c = record { lie = writes_lie _ _ _ _ c.reads.ensures c.writes_at.ensures c.writes.ensures c.args.self.counted }

pub returns-clause-are : goal.returns-clause-are
returns-clause-are c = writes_listed _ _ _ _ c.reads.ensures c.writes_at.ensures c.writes.ensures
