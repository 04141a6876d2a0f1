use Rattle.std.proofs.Common.{◌≡◌, ℕ, not, ◌&&◌, ◌||◌}
use Rattle.network.specs.Parts.{net_of}
use Rattle.window.specs.Sets.{has, feeds}
use Rattle.window.specs.Lists.{listed}
use Rattle.window.specs.Entries.{entries_of}
use Rattle.window.proofs.leaf_list.LeafList.enter_leaves.Given as goal

abbrev pub invariant-loop-n : goal.invariant-loop-n
invariant-loop-n l =
    (s : ℕ) → listed (entries_of l.self) s ≡ (listed (entries_of l.initial.self) s || (not (has l.region.members s) && feeds (net_of l.region.network.now) (has l.region.members) l.n s))
