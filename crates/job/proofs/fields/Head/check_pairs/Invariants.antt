use Rattle.std.proofs.Common.{◌≡◌, None}
use Rattle.job.specs.Checks.{verdict, upto, pair_checks, due_of}
use Rattle.job.proofs.fields.Head.check_pairs.Given as goal

abbrev pub invariant-loop-n : goal.invariant-loop-n
invariant-loop-n l = record { passed : verdict (upto l.n (pair_checks l.self.bytes.now)) ≡ None; due : l.due ≡ due_of l.self.bytes.now l.n }
