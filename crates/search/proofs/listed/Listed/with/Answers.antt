use Rattle.std.proofs.Common.{arith}
use Rattle.search.proofs.Lists.{one_more}
use Rattle.search.proofs.listed.Listed.with.Goals as goal

pub returns : goal.returns
returns c = one_more c.args.self.table.bytes c.args.y.0 (omega arith)
