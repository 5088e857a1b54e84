use Rattle.ledger.specs.State.{lent, keys, versions, present_under}
use Rattle.lists.proofs.Loops.{Joined}
use mathlib.Core.Bool.{not}
use Rattle.ledger.proofs.state.State.is_present_throughout.Given as goal

-- the tests so far, joined
abbrev pub invariant-loop-k : goal.invariant-loop-k
invariant-loop-k l = Joined (λ j. not (present_under l.n (versions (lent l.self) j))) (keys (lent l.self)) l.k l.other
