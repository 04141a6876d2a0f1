use Rattle.std.proofs.Common.{◌≡◌, ℕ, not, ◌&&◌, ◌||◌, eqb, get_or}
use Rattle.network.specs.Rows.{no_signal}
use Rattle.context.specs.Care.{any_below}
use Rattle.window.specs.Sets.{has}
use Rattle.window.specs.Lists.{listed}
use Rattle.window.specs.Entries.{entries_of}
use Rattle.window.proofs.leaf_list.LeafList.enter_all.Given as goal

abbrev pub invariant-loop-signal : goal.invariant-loop-signal
invariant-loop-signal l =
    (s : ℕ) → listed (entries_of l.self) s ≡ (listed (entries_of l.initial.self) s || (not (has l.members s) && any_below l.signal-index (λ k. eqb (get_or l.signals k no_signal).0 s)))
