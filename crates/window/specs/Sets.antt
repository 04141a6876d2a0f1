-- Sets of signals.
use Rattle.std.specs.Prelude.{ℕ, ◌+◌, Bool, false, ◌&&◌, ◌==◌, slice_index_or}
use Rattle.network.specs.Rows.{fanin}
use Rattle.network.specs.Nets.{Net, row_at}
use Rattle.context.specs.Care.{any_below}
use Rattle.context.specs.Levels.{is_fanin}
use Rattle.window.specs.declared.set.SignalSet.{SignalSet}

-- signal s is in the set
abbrev pub has : SignalSet → ℕ → Bool
has set s = slice_index_or set.flags s false

-- signal s is a fanin of one of the first n nodes, one that the set X has
abbrev pub feeds : Net → (ℕ → Bool) → ℕ → ℕ → Bool
feeds net X n s = any_below n (λ j. X (net.inputs + j) && is_fanin (row_at net j) s)

-- signal s is one of the first n nodes, one with a fanin that the set X has
abbrev pub fed : Net → (ℕ → Bool) → ℕ → ℕ → Bool
fed net X n s = any_below n (λ j. (net.inputs + j == s) && any_below (row_at net j).count (λ i. X (fanin (row_at net j) i)))
