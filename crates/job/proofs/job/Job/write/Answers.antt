use Rattle.std.proofs.Common.{◌++◌, drop, sym, ap, ◌∙◌, arith}
use Rattle.job.specs.Bytes.{encode}
use Rattle.job.specs.Jobs.{job_net}
use Rattle.job.proofs.Splices.{splice_front}
use Rattle.job.proofs.Trips.{reopens}
use Rattle.job.proofs.job.Job.write.Goals as goal

pub returns-then-out-len-clause-reopens : goal.returns-then-out-len-clause-reopens
returns-then-out-len-clause-reopens c = reopens c.args.self.now

pub returns-clause-writes : goal.returns-clause-writes
returns-clause-writes c =
    let bytes = encode (job_net c.args.self.now) in
    let len = c.file_len-len.ensures.value in
    (len, omega arith, c.store.ensures ∙ splice_front c.args.out.now bytes ∙ ap (λ n. bytes ++ drop n c.args.out.now) (sym len))

pub returns-clause-reopens : goal.returns-clause-reopens
returns-clause-reopens c = reopens c.args.self.now
