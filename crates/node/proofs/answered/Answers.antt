use Rattle.std.specs.Prelude.{Result}
use Rattle.node.specs.Word.{word}
use Rattle.refusals.specs.Outcome.{outcome}
use Rattle.refusals.specs.declared.Refusal.{Refusal}
use Prim.Native.Nat.{ℕ}
use mathlib.Core.Path.{sym, ap, ◌∙◌}
use Rattle.node.proofs.answered.Goals as goal

pub returns-in-Ok : goal.returns-in-Ok
returns-in-Ok c = ap (λ (x : Result ℕ Refusal). word (outcome x)) (sym c.in-Ok.is)

pub returns-in-Err : goal.returns-in-Err
returns-in-Err c = c.refused.ensures ∙ ap (λ (x : Result ℕ Refusal). word (outcome x)) (sym c.in-Err.is)
