use Rattle.std.proofs.Common.{◌≡◌, ℕ, ◌+◌, ◌<◌, ◌≤◌, false}
use Rattle.network.specs.Parts.{net_of}
use Rattle.context.specs.Windows.{reach_of}
use Rattle.window.specs.Sets.{has}
use Rattle.window.proofs.region.Region.led.Given as goal

abbrev pub invariant-loop-n : goal.invariant-loop-n
invariant-loop-n l =
    ((s : ℕ) → s < (net_of l.self.network.now).inputs + l.n → has l.led s ≡ reach_of (net_of l.self.network.now) (has l.self.members) ((net_of l.self.network.now).inputs + l.self.node) s)
    × ((s : ℕ) → (net_of l.self.network.now).inputs + l.n ≤ s → has l.led s ≡ false)
