use Rattle.octets.proofs.Columns.{Adding}
use Rattle.octets.proofs.weight.Totals.add.Given as goal

-- `add`: the row is added up to a column.
abbrev pub invariant-loop-c : goal.invariant-loop-c
invariant-loop-c l = Adding l.row l.initial.self.sums l.initial.self.runs l.self.sums l.self.runs l.c
