use mathlib.Core.Path.{refl, ◌∙◌}
use native.Mathlib.Nat.{le_antisymm}
use native.Mathlib.Omega.{arith}
use borrow.Author.Rules.{rules}
use lib.ListN.{get_or}
use lib.IntN.{pos}
use mir.Syntax.{w64}
use mir.Val.{SFits}
use mir.Facts.{to_z-of_z}
use Rattle.lists.specs.Tables.{flat}
use Rattle.lists.proofs.Tables.{flat-more}
use Rattle.ledger.proofs.Stored.{length-write}
use Rattle.node.specs.Lent.{write_in}
use Rattle.node.proofs.Lending.{up_to}
use Rattle.node.proofs.arrays.lay_writes.Goals as goal

pub loop-i-init : goal.loop-i-init
unfolding flat
loop-i-init c = (omega arith, refl, refl, λ k h. absurd (omega arith))

pub loop-i-preserved : goal.loop-i-preserved
loop-i-preserved c =
    let a = c.args in
    let z = get_or a.values.now c.loop-i.i (pos 0) in
    let f : SFits w64 z = record { sfits = omega arith } in (
      search rules,
      c.put_write.auto.p ∙ c.loop-i.invariant.1,
      c.put_write.ensures
          ∙ rw (to_z-of_z {w = w64} {z = z} f, c.loop-i.invariant.2)
          (flat-more 12 _ (λ k. length-write (write_in a.keys.now a.kinds.now a.values.now k)) _ _ c.loop-i.i),
      up_to (λ k. SFits w64 (get_or a.values.now k (pos 0))) c.loop-i.i c.loop-i.invariant.3 f,
    )

pub shape_of-p : goal.shape_of-p
shape_of-p c = c.loop-i.invariant.1

pub returns : goal.returns
returns c = record {
  p_after = c.loop-i.invariant.2 ∙ rw (le_antisymm c.loop-i.invariant.0 c.loop-i-test.false);
  by_index = λ i l. record {
    key = omega (arith, c.type_inv.keys i);
    kind = omega (arith, c.type_inv.kinds i);
    value = c.loop-i.invariant.3 i (omega (arith, l, c.loop-i-test.false));
  };
}
