use mathlib.Core.Path.{◌≡◌, ap, sym, ◌∙◌}
use mathlib.Core.Bool.{false}
use borrow.Author.Tests.{le-ltb}
use Rattle.ledger.specs.declared.Read.{Read}
use Rattle.ledger.specs.declared.Write.{Write}
use Rattle.ledger.specs.Page.{page_tx}
use Rattle.ledger.proofs.Rising.{last_within, last_tells, none_within, read-keys, write-keys, read_key, write_key, reads_beyond, by-writes}
use Rattle.ledger.proofs.batch.reaches_beyond.Goals as goal
use Rattle.ledger.proofs.batch.reaches_beyond.Goals.{Joined-else-r-gt0, else-r-gt0-via-then-r-gt0+else-read-keys, else-r-gt0-via-else-r-gt0}

-- the last read decides first, then the last write: where the arms meet, no read is too high
reads-low : (c : Joined-else-r-gt0) → reads_beyond c.args.keys (page_tx c.args.page.bytes.now) ≡ false
reads-low c =
    elim c.else-r-gt0.branch [
      | else-r-gt0-via-then-r-gt0+else-read-keys w ↦ last_within _ _ _ (read-keys _ c.requires) _ _ c.reads-r.ensures (ap (λ (x : Read). x.key) w.read.ensures) w.if-read-keys.false
      | else-r-gt0-via-else-r-gt0 w ↦ none_within (read_key (page_tx c.args.page.bytes.now)) _ c.args.keys _ c.reads-r.ensures w.if-r-gt0.false
    ]

pub returns-then-w-gt0 : goal.returns-then-w-gt0
returns-then-w-gt0 c =
    by-writes c.args.keys (page_tx c.args.page.bytes.now) (reads-low (goal.at.returns-then-w-gt0 c).Joined-else-r-gt0)
    (last_tells _ _ _ (write-keys _ c.requires) _ _ c.writes-w.ensures (ap (λ (x : Write). x.key) c.write.ensures) c.if-w-gt0.true)

pub returns-else-w-gt0 : goal.returns-else-w-gt0
returns-else-w-gt0 c =
    by-writes c.args.keys (page_tx c.args.page.bytes.now) (reads-low (goal.at.returns-else-w-gt0 c).Joined-else-r-gt0)
    (none_within (write_key (page_tx c.args.page.bytes.now)) _ c.args.keys _ c.writes-w.ensures c.if-w-gt0.false ∙ sym (le-ltb _ _ c.if-w-gt0.false))
