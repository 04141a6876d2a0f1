use Rattle.std.proofs.Common.{◌≡◌, ◌+◌, take}
use Rattle.job.specs.Bytes.{sizes, pairs_from, splice}
use Rattle.job.proofs.store.put_pairs.Given as goal

abbrev pub invariant-loop-n : goal.invariant-loop-n
invariant-loop-n l = record { written : l.out ≡ splice l.initial.out 4 (pairs_from l.first (take l.n l.row-items)); place : l.at ≡ l.first + sizes (take l.n l.row-items) }
