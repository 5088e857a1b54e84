use mathlib.Core.Path.{sym}
use native.Mathlib.Omega.{arith}
use lib.ListN.{length}
use borrow.Author.Tests.{eq-eqb, ne_eqb, lt-ltb, le-ltb}
use Rattle.lists.proofs.Tests.{leb-not, not-not}
use Rattle.ledger.proofs.state.State.has_wrong_lengths.Goals as goal

-- `has_wrong_lengths`: the tests in turn.
pub returns-then-self-keys : goal.returns-then-self-keys
returns-then-self-keys c =
    let a = c.args in
    rw (ne_eqb (length a.self.blocks.now) (length a.self.places.now) (λ e. c.if-self-keys.true (sym e)))

pub returns-then-self-keys-2 : goal.returns-then-self-keys-2
returns-then-self-keys-2 c =
    let a = c.args in
    rw (
      eq-eqb (length a.self.blocks.now) (length a.self.places.now) (sym c.if-self-keys.false),
      ne_eqb (length a.self.blocks.now) (length a.self.values.now) (λ e. c.if-self-keys-2.true (sym e)),
    )

pub returns-then-keys-eq0 : goal.returns-then-keys-eq0
returns-then-keys-eq0 c =
    let a = c.args in
    rw (
      eq-eqb (length a.self.blocks.now) (length a.self.places.now) (sym c.if-self-keys.false),
      eq-eqb (length a.self.blocks.now) (length a.self.values.now) (sym c.if-self-keys-2.false),
      le-ltb 0 (length a.self.blocks.now) (omega arith),
    )

pub returns : goal.returns
returns c =
    let a = c.args in
    rw (
      eq-eqb (length a.self.blocks.now) (length a.self.places.now) (sym c.if-self-keys.false),
      eq-eqb (length a.self.blocks.now) (length a.self.values.now) (sym c.if-self-keys-2.false),
      lt-ltb 0 (length a.self.blocks.now) (omega arith),
      leb-not (length a.self.blocks.now) 1024,
    ) (sym (not-not _))
