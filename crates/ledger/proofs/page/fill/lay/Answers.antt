use mathlib.Core.Path.{ap, ◌∙◌}
use native.Mathlib.Omega.{arith}
use lib.Seq.{sets}
use Rattle.ledger.specs.Tx.{read_of, write_of}
use Rattle.ledger.proofs.Owned.{owned_reads, owned_writes}
use Rattle.ledger.proofs.Stored.{length-read, length-write}
use Rattle.ledger.proofs.Laid.{stored}
use Rattle.ledger.proofs.Valued.{laid-value}
use Rattle.ledger.proofs.page.fill.lay.Goals as goal

pub returns : goal.returns
returns c =
    let t = c.args.t in
    rw (c.put_all-2.ensures, c.writes_at.ensures, c.put_all.ensures, c.put_head.ensures.p_after)
    (stored t.r t.w t.ticket _ _ (λ i. length-read (read_of t.reads i)) (λ i. length-write (write_of t.writes i)) c.args.p.now
    ∙ ap (sets c.args.p.now 0) (laid-value t (omega (arith, owned_reads t _ c.well_formed.1.0, c.requires)) (omega (arith, owned_writes t _ c.well_formed.1.0, c.requires))))
