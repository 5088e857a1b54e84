use native.Mathlib.Omega.{arith}
use borrow.Author.Rules.{rules}
use mir.Facts.{to_z-of_z}
use Rattle.report.proofs.Puts.{fitting}
use Rattle.report.proofs.Parts.{tonnes-put, tonnes-room}
use Rattle.report.proofs.put.Text.put_tonnes.Goals as goal

pub overflow_add-self : goal.overflow_add-self
overflow_add-self c =
    let p = tonnes-put _ _ _ _ _ c.requires c.ranges.value (rw (to_z-of_z c.ranges.value) at c.write_tonnage-written.ensures) _ c.in-Ok.is in
    omega (arith, p.0)

pub returns-in-Ok : goal.returns-in-Ok
returns-in-Ok c =
    let p = tonnes-put _ _ _ _ _ c.requires c.ranges.value (rw (to_z-of_z c.ranges.value) at c.write_tonnage-written.ensures) _ c.in-Ok.is in
    fitting (search rules) p.0 p.1

pub returns-in_default : goal.returns-in_default
returns-in_default c =
    absurd (tonnes-room c.args.self.now.out.now _ _ _ _ c.requires c.ranges.value (rw (to_z-of_z c.ranges.value) at c.write_tonnage-written.ensures) c.in_default.field-0 c.in_default.is)
