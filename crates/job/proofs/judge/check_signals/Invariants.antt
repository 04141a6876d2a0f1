use Rattle.std.proofs.Common.{◌≡◌, None}
use Rattle.job.specs.Checks.{verdict, upto, signal_checks}
use Rattle.job.proofs.judge.check_signals.Given as goal

abbrev pub invariant-loop-i : goal.invariant-loop-i
invariant-loop-i l = verdict (upto l.i (signal_checks l.bytes l.bound l.first)) ≡ None
