use Rattle.refusals.proofs.Answers.{handed}
use Rattle.ledger.proofs.Gated.{front_bytes, front_state}
use Rattle.ledger.specs.State.{lent}
use Rattle.refusals.specs.Fault.{finding}
use mathlib.Core.Path.{sym, ap, ◌∙◌}
use Rattle.ledger.proofs.batch.front_fault.Goals as goal

pub returns-in_err-length_fault : goal.returns-in_err-length_fault
returns-in_err-length_fault c =
    let e = ap finding c.in_err-length_fault.was in
    ap finding (handed c.from_residual.ensures.1) ∙ sym (front_bytes c.args.batch.now (lent c.args.state) c.args.n (sym c.length_fault.ensures ∙ e))

pub returns : goal.returns
returns c =
    c.fault.ensures
    ∙ sym (front_state c.args.batch.now (lent c.args.state) c.args.n (sym c.length_fault.ensures ∙ ap finding c.in_ok-length_fault.was))
