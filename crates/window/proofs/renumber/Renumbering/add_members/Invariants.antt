use Rattle.std.proofs.Common.{◌≡◌, ℕ, ◌+◌, ◌<◌, true, false}
use Rattle.network.specs.Parts.{net_of}
use Rattle.context.specs.Care.{count_below}
use Rattle.window.specs.Sets.{has}
use Rattle.window.specs.Numbers.{new_at}
use Rattle.window.proofs.renumber.Renumbering.add_members.Given as goal

abbrev pub invariant-loop-n : goal.invariant-loop-n
invariant-loop-n l =
    (l.next ≡ l.leaves + count_below ((net_of l.region.network.now).inputs + l.n) (has l.region.members))
    × ((s : ℕ) → s < (net_of l.region.network.now).inputs + l.n → has l.region.members s ≡ true → new_at l.self s ≡ l.leaves + count_below s (has l.region.members))
    × ((s : ℕ) → has l.region.members s ≡ false → new_at l.self s ≡ new_at l.initial.self s)
