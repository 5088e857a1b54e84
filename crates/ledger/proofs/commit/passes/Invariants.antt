use mathlib.Core.Bool.{Bool, not}
use Prim.Native.Nat.{ℕ}
use lib.ListN.{length}
use Rattle.lists.proofs.Loops.{Unfound}
use Rattle.ledger.specs.declared.Version.{Version}
use Rattle.ledger.specs.Tx.{Tx, read_of}
use Rattle.ledger.specs.Page.{page_tx}
use Rattle.ledger.specs.State.{lent, versions}
use Rattle.ledger.specs.Commit.{names}
use Rattle.ledger.proofs.commit.passes.Given as goal

-- read j does not name the version of its key
abbrev pub stale : Tx → (ℕ → Version) → ℕ → Bool
stale x held j = not (names held (read_of x.reads j))

abbrev pub invariant-loop-i : goal.invariant-loop-i
invariant-loop-i l = Unfound (stale (page_tx l.page.bytes.now) (versions (lent l.state))) 0 (length (page_tx l.page.bytes.now).reads) l.i
