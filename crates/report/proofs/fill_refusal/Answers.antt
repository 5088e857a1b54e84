use native.Mathlib.Omega.{arith}
use borrow.Author.Rules.{rules}
use Rattle.report.proofs.Puts.{started, at_last}
use Rattle.report.proofs.Texts.{refused-not, refused-put}
use Rattle.report.proofs.fill_refusal.Goals as goal

-- `fill_refusal`: nothing in a short buffer, else the line.
pub returns-then-out-lt-REFUSAL_ROOM : goal.returns-then-out-lt-REFUSAL_ROOM
returns-then-out-lt-REFUSAL_ROOM c =
    let a = c.args in
    let n = refused-not a.out.now a.number a.place (omega arith) in
    record { value = n.0; out_after = n.1 }

pub returns : goal.returns
returns c =
    let a = c.args in
    let t = c.put_refusal in
    let s = c.new-text.ensures.empty in
    let n = refused-put a.out.now a.number a.place _ _ (omega arith) (omega (arith, t.ensures.bound, s.0), started s t.ensures.put) in
    record { value = n.0; out_after = at_last t.new.text.out.now _ n.1 (search rules) }
