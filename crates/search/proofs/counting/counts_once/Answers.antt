use Rattle.search.proofs.Once.{counts-once}
use Rattle.search.proofs.counting.counts_once.Goals as goal

pub returns : goal.returns
returns c = counts-once
