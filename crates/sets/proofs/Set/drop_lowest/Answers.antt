use Rattle.sets.proofs.Digits.{of_drop}
use Rattle.sets.proofs.Set.drop_lowest.Goals as goal

pub returns : goal.returns
returns c i l = rw c.self.view_is (of_drop c.args.self i l.isin l.least)
