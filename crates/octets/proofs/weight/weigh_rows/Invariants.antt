use Rattle.octets.proofs.Columns.{Columned}
use Rattle.octets.proofs.weight.weigh_rows.Given as goal

-- `weigh_rows`: the rows from r on are added.
abbrev pub invariant-loop-r : goal.invariant-loop-r
invariant-loop-r l = Columned l.p l.rows l.totals.sums l.totals.runs l.r
