use Rattle.std.proofs.Common.{◌∙◌}
use Rattle.network.specs.Parts.{net_of}
use Rattle.job.proofs.Trips.{writes-back}
use Rattle.job.proofs.job.Job.read.Goals as goal

pub returns-clause-back : goal.returns-clause-back
returns-clause-back c = writes-back c.args.bytes.now (net_of c.in_ok-network.network) (c.in_ok-network.ensures.same ∙ c.in_ok-judge.ensures.same)
