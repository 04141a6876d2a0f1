use Rattle.std.proofs.Common.{◌≡◌, ℕ, ◌<◌, ◌≤◌, get_or}
use Rattle.network.specs.Rows.{fanin, no_signal}
use Rattle.window.specs.Numbers.{new_at}
use Rattle.window.proofs.renumber.Renumbering.row.Given as goal

abbrev pub invariant-loop-fanin : goal.invariant-loop-fanin
invariant-loop-fanin l = record {
  written : (k : ℕ) → k < l.fanin-index → (get_or l.fanin-items k no_signal).0 ≡ new_at l.self (fanin l.row k);
  rest : (k : ℕ) → l.fanin-index ≤ k → get_or l.fanin-items k no_signal ≡ get_or l.initial.fanin-items k no_signal;
}
