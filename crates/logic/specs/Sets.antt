-- Sets of signals, as a flag for each signal.
use Rattle.std.specs.Prelude.{◌≡◌, ℕ, ◌+◌, ◌<◌, Bool, true, false, List, slice_index_or}
use Rattle.network.specs.Rows.{fanin}
use Rattle.network.specs.Nets.{Net, nodes, row_at}

-- whether signal s is one of the set
abbrev pub is_in : List Bool → ℕ → Bool
is_in set s = slice_index_or set s false

-- a set of signals that has the fanins of each of its nodes
abbrev pub Closed : Net → List Bool → Type 0
Closed net set = (n i : ℕ) → n < nodes net → is_in set (net.inputs + n) ≡ true → i < (row_at net n).count → is_in set (fanin (row_at net n) i) ≡ true
