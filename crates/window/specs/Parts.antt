-- The extracted network, as it grows.
use Rattle.std.specs.Prelude.{ℕ, ◌+◌, ◌-◌, Bool, [], map, length}
use Rattle.network.specs.Nets.{Net, size, row_at}
use Rattle.context.specs.Ranks.{chosen}
use Rattle.context.specs.Windows.{leaves_of, is_root}
use Rattle.context.specs.Extracts.{new_of, signal_of, renumber}

-- the rows of the members below signal n, and no outputs
abbrev pub rows_to : Net → (ℕ → Bool) → ℕ → Net
rows_to net member n = record {
  inputs = length (leaves_of net member);
  rows = map (λ s. renumber (new_of net member) (row_at net (s - net.inputs))) (chosen n member);
  outputs = [];
}

-- all rows, and the roots below signal n
abbrev pub roots_to : Net → (ℕ → Bool) → ℕ → ℕ → Net
roots_to net member t n = record {
  inputs = length (leaves_of net member);
  rows = (rows_to net member (size net)).rows;
  outputs = map (λ s. signal_of (new_of net member s)) (chosen n (is_root net member (net.inputs + t)));
}
