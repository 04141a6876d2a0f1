use Rattle.std.proofs.Common.{◌≡◌, ℕ, ◌<◌, get_or}
use Rattle.network.specs.Rows.{no_signal}
use Rattle.window.specs.Numbers.{new_at}
use Rattle.window.proofs.renumber.Renumbering.of_leaves.Given as goal

abbrev pub invariant-loop-i : goal.invariant-loop-i
invariant-loop-i l = (k : ℕ) → k < l.i → new_at l.numbers (get_or l.leaves k no_signal).0 ≡ k
