use Rattle.search.proofs.Lists.{none-listed}
use Rattle.search.proofs.listed.Listed.empty.Goals as goal

pub returns : goal.returns
returns c = none-listed
