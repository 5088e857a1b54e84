use Rattle.octets.proofs.Stored.{puts}
use Rattle.ledger.proofs.page.fill.put_read.Goals as goal

pub returns : goal.returns
returns c =
    let a = c.args in
    rw (c.put-3.ensures, c.put-2.ensures, c.put.ensures)
    (puts a.p.now a.at a.x.key a.x.version.place 4 a.x.version.block)
