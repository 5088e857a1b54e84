use Rattle.std.proofs.Common.{◌-◌, ◌≤◌, length}
use Rattle.edges.proofs.read_full.Given as goal

abbrev pub invariant-loop-count : goal.invariant-loop-count
invariant-loop-count g l = l.at ≤ length l.buffer

-- the room that is left
abbrev pub decreases-loop-count : goal.decreases-loop-count
decreases-loop-count g l = length l.initial.buffer - l.at
