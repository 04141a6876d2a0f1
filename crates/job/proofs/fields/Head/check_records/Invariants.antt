use Rattle.std.proofs.Common.{◌≡◌, None}
use Rattle.job.specs.Checks.{verdict, upto, node_checks}
use Rattle.job.proofs.fields.Head.check_records.Given as goal

abbrev pub invariant-loop-n : goal.invariant-loop-n
invariant-loop-n l = verdict (upto l.n (node_checks l.self.bytes.now)) ≡ None
