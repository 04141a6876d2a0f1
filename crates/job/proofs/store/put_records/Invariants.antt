use Rattle.std.proofs.Common.{◌≡◌, ◌+◌, take}
use Rattle.std.specs.List.{flat_map}
use Rattle.job.specs.Bytes.{sizes, record_bytes, splice}
use Rattle.job.proofs.store.put_records.Given as goal

abbrev pub invariant-loop-row : goal.invariant-loop-row
invariant-loop-row l = record { written : l.out ≡ splice l.initial.out l.first (flat_map record_bytes (take l.row-index l.row-items)); place : l.at ≡ l.first + sizes (take l.row-index l.row-items) }
