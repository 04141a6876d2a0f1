-- A network as the statements speak of it: its inputs, rows and outputs, with no memory.
use Rattle.std.specs.Prelude.{ℕ, ◌+◌, ◌<◌, ◌≤◌, List, [], ◌∷◌, ◌++◌, length, get_or, slice_index_or, slice_set}
use Rattle.network.specs.Limits.{max_inputs, max_nodes}
use Rattle.network.specs.Rows.{blank, no_signal, Legal, with_function}
use Rattle.network.specs.declared.row.Signal.{Signal}
use Rattle.network.specs.declared.row.Function.{Function}
use Rattle.network.specs.declared.row.Row.{Row}

-- signals below `inputs` are primary inputs, and signal inputs + n is node n
pub record Net : Type 0 where
  pub inputs : ℕ
  pub rows : List Row
  pub outputs : List Signal

abbrev pub nodes : Net → ℕ
nodes net = length net.rows

-- how many signals there are
abbrev pub size : Net → ℕ
size net = net.inputs + nodes net

-- the row of node n
abbrev pub row_at : Net → ℕ → Row
row_at net n = slice_index_or net.rows n blank

-- the signal of output j
abbrev pub output_at : Net → ℕ → ℕ
output_at net j = (get_or net.outputs j no_signal).0

-- every row is legal at its place, and every output is a signal
pub record LegalNet (net : Net) : Type 0 where
  pub few_inputs : net.inputs ≤ max_inputs
  pub few_nodes : nodes net ≤ max_nodes
  pub row : (n : ℕ) → n < nodes net → Legal (net.inputs + n) (row_at net n)
  pub exit : (j : ℕ) → j < length net.outputs → output_at net j < size net

-- the network of some inputs and nothing else
abbrev pub bare : ℕ → Net
bare inputs = record { inputs = inputs; rows = []; outputs = [] }

-- one node more
abbrev pub with_row : Net → Row → Net
with_row net r = record { inputs = net.inputs; rows = net.rows ++ r ∷ []; outputs = net.outputs }

-- one output more
abbrev pub with_output : Net → Signal → Net
with_output net s = record { inputs = net.inputs; rows = net.rows; outputs = net.outputs ++ s ∷ [] }

-- node n with another function
abbrev pub replaced : Net → ℕ → Function → Net
replaced net n f = record { inputs = net.inputs; rows = slice_set net.rows n (with_function (row_at net n) f); outputs = net.outputs }
