use native.Mathlib.Omega.{arith}
use borrow.Author.Rules.{rules}
use Rattle.report.proofs.Puts.{fitting}
use Rattle.report.proofs.Parts.{narrow_32, number}
use Rattle.report.proofs.put.Text.put_number.Goals as goal

pub put-requires : goal.put-requires
put-requires c = omega (arith, narrow_32 c.args.n (omega arith), c.width-count.ensures.0)

pub returns : goal.returns
returns c =
    let x = number _ _ _ _ _ (omega arith) c.width-count.ensures.0 c.put.ensures in
    fitting (search rules) x.0 x.1
