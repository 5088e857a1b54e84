use Rattle.std.proofs.Common.{◌≤◌, length}
use Rattle.edges.proofs.run_service.Given as goal

abbrev pub invariant-loop-size : goal.invariant-loop-size
invariant-loop-size g l = length l.rest ≤ length l.input

abbrev pub decreases-loop-size : goal.decreases-loop-size
decreases-loop-size g l = length l.rest
