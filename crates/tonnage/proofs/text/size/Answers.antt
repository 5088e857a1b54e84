use native.Mathlib.Omega.{arith}
use borrow.Author.Tests.{le-ltb}
use Rattle.tonnage.proofs.Laying.{laid_facts, size-held}
use Rattle.tonnage.proofs.text.size.Goals as goal

pub overflow_sub-point : goal.overflow_sub-point
overflow_sub-point c = omega (arith, (laid_facts _ c.requires).long)

pub follow-whole-requires-clause-from_le_to : goal.follow-whole-requires-clause-from_le_to
follow-whole-requires-clause-from_le_to c = (omega (arith, (laid_facts _ c.requires).long, c.start-start.ensures), omega arith)

pub follow-whole-requires-clause-digits : goal.follow-whole-requires-clause-digits
follow-whole-requires-clause-digits c = rw c.start-start.ensures (le-ltb _ _ (laid_facts _ c.requires).whole)

pub follow-requires-clause-from_le_to : goal.follow-requires-clause-from_le_to
follow-requires-clause-from_le_to c = (omega (arith, (laid_facts _ c.requires).long), omega arith)

pub follow-requires-clause-digits : goal.follow-requires-clause-digits
follow-requires-clause-digits c = le-ltb _ _ (laid_facts _ c.requires).part

pub returns : goal.returns
returns c = size-held _ _ _ _ c.start-start.ensures c.follow-whole.ensures c.follow.ensures
