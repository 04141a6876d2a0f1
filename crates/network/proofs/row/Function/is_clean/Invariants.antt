use Rattle.std.proofs.Common.{◌≡◌, ℕ, ◌^◌, ◌<◌, ◌≤◌, false}
use Rattle.network.specs.Rows.{bit_of}
use Rattle.network.proofs.row.Function.is_clean.Given as goal

abbrev pub invariant-loop-y : goal.invariant-loop-y
invariant-loop-y l = (y : ℕ) → 2 ^ l.count ≤ y → y < l.y → bit_of l.self y ≡ false
