use Rattle.std.proofs.Common.{◌≡◌, ℕ, ◌+◌, ◌<◌, ◌≤◌}
use Rattle.network.specs.Rows.{fanin}
use Rattle.network.proofs.row.Row.is_unused.Given as goal

abbrev pub invariant-loop-fanin : goal.invariant-loop-fanin
invariant-loop-fanin l = (i : ℕ) → l.self.count ≤ i → i < l.self.count + l.fanin-index → fanin l.self i ≡ 0
