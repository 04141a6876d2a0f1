use Rattle.std.proofs.Common.{◌≡◌, take}
use Rattle.job.specs.Bytes.{splice, signal_bytes}
use Rattle.job.proofs.store.put_signals.Given as goal

abbrev pub invariant-loop-i : goal.invariant-loop-i
invariant-loop-i l = l.out ≡ splice l.initial.out l.at (signal_bytes (take l.i l.signals))
