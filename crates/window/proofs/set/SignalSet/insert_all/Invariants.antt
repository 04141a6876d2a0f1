use Rattle.std.proofs.Common.{◌≡◌, ℕ, ◌||◌, eqb, get_or}
use Rattle.network.specs.Rows.{no_signal}
use Rattle.context.specs.Care.{any_below}
use Rattle.window.specs.Sets.{has}
use Rattle.window.proofs.set.SignalSet.insert_all.Given as goal

abbrev pub invariant-loop-signal : goal.invariant-loop-signal
invariant-loop-signal l = (s : ℕ) → has l.self s ≡ (has l.initial.self s || any_below l.signal-index (λ m. eqb (get_or l.signals m no_signal).0 s))
