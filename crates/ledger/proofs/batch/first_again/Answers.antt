use Rattle.lists.proofs.Loops.{begins, passes, gives-found, gives-none}
use Rattle.ledger.proofs.Tickets.{among_first}
use mathlib.Core.Path.{sym, ◌∙◌}
use native.Mathlib.Omega.{arith}
use Rattle.ledger.proofs.batch.first_again.Goals as goal

pub loop-i-init : goal.loop-i-init
loop-i-init c = begins _ _ _ (omega arith)

pub returns-then-among : goal.returns-then-among
returns-then-among c = gives-found c.loop-i.invariant c.loop-i-test.true (sym (among_first c.args.tickets.now c.loop-i.i _ (omega arith)) ∙ sym c.among.ensures ∙ c.if-among.true)

pub loop-i-preserved : goal.loop-i-preserved
loop-i-preserved c = passes c.loop-i.invariant c.loop-i-test.true (sym (among_first c.args.tickets.now c.loop-i.i _ (omega arith)) ∙ sym c.among.ensures ∙ c.if-among.false)

pub returns : goal.returns
returns c = gives-none c.loop-i.invariant c.loop-i-test.false
