use native.Mathlib.Omega.{arith}
use Rattle.ledger.proofs.OnPage.{count-reads, count-writes}
use Rattle.ledger.proofs.page.content.Page.counts.Goals as goal

pub overflow_cast-result : goal.overflow_cast-result
overflow_cast-result c = omega (arith, c.reads.ensures, count-reads c.args.self.bytes.now, c.args.self.counted)

pub overflow_cast-result-2 : goal.overflow_cast-result-2
overflow_cast-result-2 c = omega (arith, c.writes.ensures, count-writes c.args.self.bytes.now, c.args.self.counted)
