-- A member set with a target node, read as a network of its own: the leaves are its inputs, the members its nodes and the roots its
-- outputs, each ascending.
use Rattle.std.specs.Prelude.{◌≡◌, ℕ, ◌+◌, ◌-◌, ◌<◌, Bool, true, cond, ◌++◌, map, length, replicate, Option, slice_index}
use Rattle.std.specs.List.{range_with_len}
use Rattle.network.specs.Limits.{max_fanins}
use Rattle.network.specs.Rows.{fanin, no_signal}
use Rattle.network.specs.Nets.{Net, nodes, row_at}
use Rattle.network.specs.declared.row.Signal.{Signal}
use Rattle.network.specs.declared.row.Row.{Row}
use Rattle.theory.specs.Values.{value_of, turns, flipped}
use Rattle.context.specs.Care.{count_below}
use Rattle.context.specs.Windows.{is_leaf, leaves_of, members_of, roots_of}

-- the new number of a leaf or a member: first come the leaves, then the members
unfoldable pub new_of : Net → (ℕ → Bool) → ℕ → ℕ
new_of net member s = cond (member s) (length (leaves_of net member) + count_below s member) (count_below s (is_leaf net member))

-- the signal that has the new number s
unfoldable pub old_of : Net → (ℕ → Bool) → ℕ → ℕ
old_of net member s = slice_index (leaves_of net member ++ members_of net member) s

-- the node that node t becomes
abbrev pub place_of : Net → (ℕ → Bool) → ℕ → ℕ
place_of net member t = count_below (net.inputs + t) member

-- the signal with number n
abbrev pub signal_of : ℕ → Signal
signal_of n = record { 0 = n }

-- the row with its fanins renumbered; places that are not used hold 0
abbrev pub renumber : (ℕ → ℕ) → Row → Row
renumber new r = record {
  count = r.count;
  fanins = map (λ i. signal_of (new (fanin r i))) (range_with_len 0 r.count) ++ replicate (max_fanins - r.count) no_signal;
  function = r.function;
}

-- the network that the members are extracted as, with node t for the target
unfoldable pub extract_of : Net → (ℕ → Bool) → ℕ → Net
extract_of net member t = record {
  inputs = length (leaves_of net member);
  rows = map (λ s. renumber (new_of net member) (row_at net (s - net.inputs))) (members_of net member);
  outputs = map (λ s. signal_of (new_of net member s)) (roots_of net member (net.inputs + t));
}

-- r' is the row r with its fanins renumbered
pub record Renumbered (new : ℕ → ℕ) (r' r : Row) : Type 0 where
  pub count : r'.count ≡ r.count
  pub function : r'.function ≡ r.function
  pub fanins : (i : ℕ) → i < r.count → fanin r' i ≡ new (fanin r i)

-- win is the extracted network, whatever the places of its rows that are not used hold
pub record Extracted (net : Net) (member : ℕ → Bool) (t : ℕ) (win : Net) : Type 0 where
  pub inputs : win.inputs ≡ length (leaves_of net member)
  pub count : nodes win ≡ length (members_of net member)
  pub row : (j : ℕ) → j < nodes win → Renumbered (new_of net member) (row_at win j) (row_at net (slice_index (members_of net member) j - net.inputs))
  pub outputs : win.outputs ≡ map (λ s. signal_of (new_of net member s)) (roots_of net member (net.inputs + t))

-- the assignment that gives each leaf its value in u
abbrev pub leaf_values : Net → (ℕ → Bool) → (ℕ → Bool) → ℕ → Bool
leaf_values net member u i = u (slice_index (leaves_of net member) i)

-- the members are valued in place: u agrees with every member's row, with the value of one node inverted or of none
abbrev pub ValuedInPlace : Option ℕ → Net → (ℕ → Bool) → (ℕ → Bool) → Type 0
ValuedInPlace turn net member u = (n : ℕ) → n < nodes net → member (net.inputs + n) ≡ true → u (net.inputs + n) ≡ flipped (turns turn (net.inputs + n)) (value_of (row_at net n) u)
