use native.Mathlib.Omega.{arith}
use lib.Seq.{slice_empty}
use Rattle.lists.proofs.Searches.{missed_from}
use Rattle.tonnage.specs.Text.{follow}
use Rattle.tonnage.proofs.Runs.{digit_range, follow_more}
use Rattle.tonnage.proofs.digits.follow.Goals as goal

pub loop-i-init : goal.loop-i-init
unfolding follow
loop-i-init c = rw (slice_empty c.args.from c.args.text.now) (omega arith)

pub with_digit-sum-requires : goal.with_digit-sum-requires
with_digit-sum-requires c = digit_range _ (missed_from _ _ _ c.requires.digits c.loop-i.i (omega arith) (omega arith))

pub loop-i-preserved : goal.loop-i-preserved
loop-i-preserved c = follow_more _ c.args.text.now _ c.loop-i.i _ _ (omega arith) (omega arith) c.loop-i.invariant c.with_digit-sum.ensures
