use mathlib.Core.Path.{refl, ◌∙◌}
use native.Mathlib.Nat.{le_antisymm}
use native.Mathlib.Omega.{arith}
use borrow.Author.Rules.{rules}
use Rattle.lists.specs.Tables.{flat}
use Rattle.lists.proofs.Tables.{flat-more}
use Rattle.ledger.proofs.Stored.{length-read}
use Rattle.node.specs.Lent.{read_in}
use Rattle.node.proofs.arrays.lay_reads.Goals as goal

pub loop-i-init : goal.loop-i-init
unfolding flat
loop-i-init c = (omega arith, refl, refl)

pub loop-i-preserved : goal.loop-i-preserved
loop-i-preserved c =
    let a = c.args in (
      search rules,
      c.put_read.auto.p ∙ c.loop-i.invariant.1,
      c.put_read.ensures
          ∙ rw c.loop-i.invariant.2 (flat-more 8 _ (λ k. length-read (read_in a.keys.now a.places.now a.blocks.now k)) _ _ c.loop-i.i),
    )

pub shape_of-p : goal.shape_of-p
shape_of-p c = c.loop-i.invariant.1

pub returns : goal.returns
returns c = record {
  p_after = c.loop-i.invariant.2 ∙ rw (le_antisymm c.loop-i.invariant.0 c.loop-i-test.false);
  by_index = λ i l. record {
    key = omega (arith, c.type_inv.keys i);
    place = omega (arith, c.type_inv.places i);
    block = omega (arith, c.type_inv.blocks i);
  };
}
