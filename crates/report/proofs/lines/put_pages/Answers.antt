use Prim.Native.Nat.{ℕ, ◌<◌, ◌/◌}
use mathlib.Core.Path.{ap, ap₂, ◌∙◌}
use mathlib.Core.List.{List}
use native.Mathlib.Omega.{arith}
use lib.ListN.{length, length-take}
use lib.Seq.{get_or-take}
use Rattle.lists.specs.Tables.{flat}
use Rattle.ledger.specs.Page.{page_tx}
use Rattle.report.specs.Listing.{page_line, place_text}
use Rattle.report.proofs.Puts.{none, more_lines}
use Rattle.report.proofs.lines.put_pages.Goals as goal

pub loop-i-init : goal.loop-i-init
unfolding flat
loop-i-init c = none _ _

pub loop-i-preserved : goal.loop-i-preserved
loop-i-preserved c =
    let a = c.args in
    let place = place_text a.order.now (length a.order.now) c.loop-i.i in
    let there : c.loop-i.i < length a.batch.now / 512 = omega (arith, length-take {A = ℕ}) in
    let t = c.ticket-ticket.ensures ∙ ap (λ (x : List ℕ). (page_tx x).ticket) c.page_at.ensures in
    let v = get_or-take (length a.batch.now / 512) a.verdicts.now c.loop-i.i 0 there in
    more_lines _ (omega arith) (ap₂ (λ (x y : ℕ). page_line x y place) t v) c.loop-i.invariant c.put_page.ensures
