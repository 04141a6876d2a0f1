-- How large a network may be.
use Rattle.std.specs.Prelude.{ℕ, ◌+◌, ◌/◌, ◌^◌}

abbrev pub max_inputs : ℕ
max_inputs = 48

abbrev pub max_nodes : ℕ
max_nodes = 480

-- signals of a network
abbrev pub max_signals : ℕ
max_signals = max_inputs + max_nodes

abbrev pub max_fanins : ℕ
max_fanins = 8

-- minterms of a node with as many fanins
abbrev pub minterms : ℕ
minterms = 2 ^ max_fanins

-- bytes of a function, a bit for each minterm
abbrev pub function_bytes : ℕ
function_bytes = minterms / 8
