use mathlib.Core.Path.{refl}
use native.Mathlib.Omega.{arith}
use borrow.Author.Rules.{rules}
use Rattle.report.proofs.Puts.{copied, fitting}
use Rattle.report.proofs.put.Text.put_bytes.Goals as goal

pub returns : goal.returns
returns c =
    let t = c.args.self.now in
    fitting (search rules) (omega arith) (record { ends = refl; stands = copied t.out.now c.args.bytes.now _ t.end _ c.requires (omega arith) c.copy_from_slice.ensures.after })
