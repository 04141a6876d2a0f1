use Rattle.std.proofs.Common.{◌≡◌, ℕ, ◌||◌}
use Rattle.network.specs.Parts.{net_of}
use Rattle.window.specs.Sets.{has, feeds}
use Rattle.window.proofs.levels.with_fanins.Given as goal

abbrev pub invariant-loop-n : goal.invariant-loop-n
invariant-loop-n l = (s : ℕ) → has l.wider s ≡ (has l.fn.set s || feeds (net_of l.network) (has l.fn.set) l.n s)
