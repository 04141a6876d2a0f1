-- Member sets with a target node: leaves, members and roots.
use Rattle.std.specs.Prelude.{◌≡◌, ℕ, ◌+◌, ◌<◌, ◌≤◌, Bool, true, false, not, ◌&&◌, ◌||◌, List, map, length, ◌==◌, nat_eq, slice_index_or}
use Rattle.std.specs.List.{range_with_len}
use Rattle.network.specs.Rows.{fanin}
use Rattle.network.specs.Nets.{Net, nodes, size, row_at, output_at}
use Rattle.network.specs.declared.row.Row.{Row}
use Rattle.theory.specs.Values.{built}
use Rattle.context.specs.Care.{any_below}
use Rattle.context.specs.Ranks.{chosen}
use Rattle.context.specs.Levels.{Edge, is_fanin}

-- the members are nodes, and node t is one of them
pub record Members (net : Net) (member : ℕ → Bool) (t : ℕ) : Type 0 where
  pub above : (s : ℕ) → member s ≡ true → net.inputs ≤ s
  pub inside : (s : ℕ) → member s ≡ true → s < size net
  pub held : member (net.inputs + t) ≡ true

-- a leaf: no member, but a fanin of one
abbrev pub is_leaf : Net → (ℕ → Bool) → ℕ → Bool
is_leaf net member s = not (member s) && any_below (nodes net) (λ n. member (net.inputs + n) && is_fanin (row_at net n) s)

-- the leaves, ascending
abbrev pub leaves_of : Net → (ℕ → Bool) → List ℕ
leaves_of net member = chosen (size net) (is_leaf net member)

-- the members, ascending
abbrev pub members_of : Net → (ℕ → Bool) → List ℕ
members_of net member = chosen (size net) member

-- a path on which every node is a member leads from signal T to s
pub data Leads (net : Net) (member : ℕ → Bool) (T : ℕ) : ℕ → Type 0 where
  start : member T ≡ true → Leads net member T T
  onward : (s s' : ℕ) → Leads net member T s → Edge net s s' → member s' ≡ true → Leads net member T s'

-- whether such a path leads to the signal s with row r, where v says it of the lower signals
abbrev pub reach_step : (ℕ → Bool) → ℕ → ℕ → Row → (ℕ → Bool) → Bool
reach_step member T s r v = member s && (s == T || any_below r.count (λ i. v (fanin r i)))

-- the signals to which such a path leads from T, by one pass upward over the rows
unfoldable pub reach_of : Net → (ℕ → Bool) → ℕ → ℕ → Bool
reach_of net member T s = slice_index_or (built (reach_step member T) false net.rows (map (λ _. false) (range_with_len 0 net.inputs))) s false

-- reach agrees with every row about what signal T leads to through members, and has no input
pub record Reaches (net : Net) (member : ℕ → Bool) (T : ℕ) (reach : ℕ → Bool) : Type 0 where
  pub input : (i : ℕ) → i < net.inputs → reach i ≡ false
  pub node : (n : ℕ) → n < nodes net → reach (net.inputs + n) ≡ reach_step member T (net.inputs + n) (row_at net n) reach

-- signal s is an output
abbrev pub is_output : Net → ℕ → Bool
is_output net s = any_below (length net.outputs) (λ j. nat_eq (output_at net j) s)

-- signal s is an output, or a fanin of a node that is no member
abbrev pub is_exposed : Net → (ℕ → Bool) → ℕ → Bool
is_exposed net member s = is_output net s || any_below (nodes net) (λ n. not (member (net.inputs + n)) && is_fanin (row_at net n) s)

-- a root: signal T, or a member that it leads to through members, that is exposed
abbrev pub is_root : Net → (ℕ → Bool) → ℕ → ℕ → Bool
is_root net member T s = reach_of net member T s && is_exposed net member s

-- the roots, ascending
abbrev pub roots_of : Net → (ℕ → Bool) → ℕ → List ℕ
roots_of net member T = chosen (size net) (is_root net member T)
