use Rattle.sets.proofs.Laws.{none}
use Rattle.planner.proofs.fill.placed.Goals as goal

pub loop-page-init : goal.loop-page-init
loop-page-init c = none
