use Rattle.network.specs.Parts.{net_of}
use Rattle.job.specs.Loads.{OutputsLoaded}
use Rattle.job.proofs.fields.Passed.load_outputs.Given as goal

abbrev pub invariant-loop-j : goal.invariant-loop-j
invariant-loop-j l = OutputsLoaded l.self.head.bytes.now l.j (net_of l.network)
