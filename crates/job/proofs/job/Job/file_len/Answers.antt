use Rattle.std.proofs.Common.{length, ap, arith}
use Rattle.job.specs.Jobs.{job_net}
use Rattle.job.proofs.Encoded.{length-encode}
use Rattle.job.proofs.job.Job.file_len.Goals as goal

pub returns-clause-value : goal.returns-clause-value
returns-clause-value c =
    let rows = ap length c.rows-rows.ensures.value in
    let outputs = ap length c.outputs-outputs.ensures in
    omega (arith, length-encode (job_net c.args.self.now) c.rows-rows.ensures.legal, c.records_len.ensures.value)
