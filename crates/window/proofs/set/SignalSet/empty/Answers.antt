use Rattle.window.proofs.Steps.{none-set}
use Rattle.window.proofs.set.SignalSet.empty.Goals as goal

pub returns : goal.returns
returns c = none-set 528
