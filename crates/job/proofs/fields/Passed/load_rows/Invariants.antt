use Rattle.network.specs.Parts.{net_of}
use Rattle.job.specs.Loads.{RowsLoaded}
use Rattle.job.proofs.fields.Passed.load_rows.Given as goal

abbrev pub invariant-loop-n : goal.invariant-loop-n
invariant-loop-n l = RowsLoaded l.self.head.bytes.now l.n (net_of l.network)
