use mathlib.Core.Path.{ap₂, ◌∙◌}
use Prim.Native.Nat.{◌+◌, ◌*◌}
use Rattle.refusals.proofs.Answers.{told}
use Rattle.refusals.specs.Outcome.{number_of}
use Rattle.refusals.specs.Fault.{fault}
use Rattle.ledger.proofs.Listed.{length-listed, key-fault, wrong-fault, no-fault}
use Rattle.ledger.proofs.page.entries.Entries.fault.Goals as goal

-- `fault`: the searches in turn.
pub returns-in-Some : goal.returns-in-Some
returns-in-Some g c =
    let s = c.args.self.now in
    let e = g.E.PageEntry in
    let n = length-listed e.at e.SIZE s.page.now s.from s.count in
    told c.at.ensures
    ∙ ap₂ (λ r m. fault (number_of r) (s.from + m * c.in-Some.i)) c.KEYS.ensures c.SIZE.ensures
    ∙ key-fault (number_of e.KEYS) (number_of e.FORM) (λ i. s.from + e.SIZE * i) e.NONE e.key e.wrong _ s.count n _ c.in-Some.ensures

pub returns-in-Some-first_wrong : goal.returns-in-Some-first_wrong
returns-in-Some-first_wrong g c =
    let s = c.args.self.now in
    let e = g.E.PageEntry in
    let n = length-listed e.at e.SIZE s.page.now s.from s.count in
    told c.at-in-Some-first_wrong.ensures
    ∙ ap₂ (λ r m. fault (number_of r) (s.from + m * c.in-Some-first_wrong.i + 2)) c.FORM.ensures c.SIZE-in-Some-first_wrong.ensures
    ∙ wrong-fault (number_of e.KEYS) (number_of e.FORM) (λ i. s.from + e.SIZE * i) e.NONE e.key e.wrong _ s.count n c.in_default.ensures _ c.in-Some-first_wrong.ensures

pub returns : goal.returns
returns g c =
    let s = c.args.self.now in
    let e = g.E.PageEntry in
    let n = length-listed e.at e.SIZE s.page.now s.from s.count in
    no-fault (number_of e.KEYS) (number_of e.FORM) (λ i. s.from + e.SIZE * i) e.NONE e.key e.wrong _ s.count n c.in_default.ensures c.in_default-first_wrong.ensures
