-- What the calls of a network answer, in terms of the network that the statements speak of.
use Rattle.std.specs.Prelude.{◌≡◌, ℕ, ◌<◌, ◌≤◌, Ok, Err, vec_items, Result}
use Rattle.network.specs.Limits.{max_nodes}
use Rattle.network.specs.Rows.{Legal}
use Rattle.network.specs.Nets.{Net, nodes, size, with_row, with_output}
use Rattle.network.specs.declared.row.Signal.{Signal}
use Rattle.network.specs.declared.row.Row.{Row}
use Rattle.network.specs.declared.node.Node.{Node}
use Rattle.network.specs.declared.network.Network.{Network}
use Rattle.network.specs.declared.network.PushError.{PushError}
use Rattle.network.specs.declared.network.PushError.TheVariants.{Full, Illegal, NoSignal, NoMemory}

abbrev pub net_of : Network → Net
net_of n = record { inputs = n.inputs; rows = vec_items n.table.rows; outputs = vec_items n.outputs }

-- a node record is that of signal s with row r
abbrev pub NodeIs : Node → ℕ → Row → Type 0
NodeIs n s r = (n.signal.0 ≡ s) × (n.row ≡ r)

-- one row more, exactly if there is room, the row is legal as that of the next signal, and there is memory; else nothing changes
abbrev pub PushesRow : Net → Row → Result Unit PushError → Net → Type 0
PushesRow net r (Ok _) net' = (nodes net < max_nodes) × Legal (size net) r × (net' ≡ with_row net r)
PushesRow net r (Err Full) net' = (max_nodes ≤ nodes net) × (net' ≡ net)
PushesRow net r (Err Illegal) net' = (nodes net < max_nodes) × (Legal (size net) r → ⊥) × (net' ≡ net)
PushesRow net r (Err NoSignal) net' = ⊥
PushesRow net r (Err NoMemory) net' = (nodes net < max_nodes) × Legal (size net) r × (net' ≡ net)

-- one output more, exactly if it is a signal and there is memory; else nothing changes
abbrev pub PushesOutput : Net → Signal → Result Unit PushError → Net → Type 0
PushesOutput net s (Ok _) net' = (s.0 < size net) × (net' ≡ with_output net s)
PushesOutput net s (Err Full) net' = ⊥
PushesOutput net s (Err Illegal) net' = ⊥
PushesOutput net s (Err NoSignal) net' = (size net ≤ s.0) × (net' ≡ net)
PushesOutput net s (Err NoMemory) net' = (s.0 < size net) × (net' ≡ net)
