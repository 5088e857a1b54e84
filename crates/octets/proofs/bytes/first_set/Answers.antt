use Rattle.lists.proofs.Positions.{some_position, no_position}
use Rattle.octets.proofs.bytes.first_set.Goals as goal

pub returns-in-Some : goal.returns-in-Some
returns-in-Some c = some_position _ _ _ _ c.requires.0 c.requires.1 _ c.in-Some.ensures

pub returns-in-None : goal.returns-in-None
returns-in-None c = no_position _ _ _ _ c.requires.0 c.requires.1 c.in-None.ensures
