use Rattle.std.proofs.Common.{arith}
use Rattle.job.proofs.Splices.{splice-mid}
use Rattle.job.proofs.store.put_bytes.Goals as goal

pub returns : goal.returns
returns c = splice-mid c.args.at _ c.args.out.now _ c.args.src.now c.copy_from_slice.ensures.after (omega arith)
