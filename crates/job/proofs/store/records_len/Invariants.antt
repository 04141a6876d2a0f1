use Rattle.std.proofs.Common.{◌≡◌, ◌*◌, ◌≤◌, take}
use Rattle.job.specs.Bytes.{sizes}
use Rattle.job.proofs.store.records_len.Given as goal

abbrev pub invariant-loop-row : goal.invariant-loop-row
invariant-loop-row l = record { value : l.len ≡ sizes (take l.row-index l.row-items); most : l.len ≤ 49 * l.row-index }
