-- What a logic, given by its pick and its constants, makes of a network.
use Rattle.std.specs.Prelude.{◌≡◌, ℕ, ◌+◌, ◌<◌, ◌≤◌, Bool, true, false, List, ◌++◌, length, take, drop, Some, None, Option, slice_index_or}
use Rattle.network.specs.Nets.{Net, row_at, size}
use Rattle.network.specs.declared.row.Row.{Row}
use Rattle.network.specs.declared.row.Signal.{Signal}
use Rattle.theory.specs.Values.{turns, built, value, output}
use Rattle.logic.specs.Lanes.{LaneRow, Admit}
use Rattle.logic.specs.Folds.{node_of, turned_of}
use Rattle.logic.specs.Sets.{is_in}

-- the signal to invert, as a number
abbrev pub turn_of : Option Signal → Option ℕ
turn_of None = None
turn_of (Some t) = Some t.0

-- the value of signal s with row r, at the values v of the lower signals
abbrev pub node_step : {V : Type 0} → (V → V → V → V) → (Bool → V) → Option ℕ → ℕ → Row → (ℕ → V) → V
node_step pick of turn s r v = turned_of pick of (turns turn s) (node_of pick of r v)

-- the values of the leaves, followed by those of the rows
unfoldable pub walked : {V : Type 0} → (V → V → V → V) → (Bool → V) → Option ℕ → List Row → List V → List V
walked pick of turn rs leaves = built (node_step pick of turn) (of false) rs leaves

-- ws written over the front of vs
abbrev pub over : {V : Type 0} → List V → List V → List V
over ws vs = ws ++ drop (length ws) vs

-- vs after a walk from the leaves' values, which are the first of `leaves`: what stands behind the last signal stays
abbrev pub walked_into : {V : Type 0} → (V → V → V → V) → (Bool → V) → Option ℕ → Net → List V → List V → List V
walked_into pick of turn net leaves vs = over (walked pick of turn net.rows (take net.inputs leaves)) vs

-- the row of signal s, where leaf i has the row rows i
abbrev pub signal_row : Option ℕ → Net → (ℕ → LaneRow) → ℕ → LaneRow
signal_row turn net rows s l = value turn net (λ i. rows i l) s

-- whatever rows the leaves' values admit, every value admits the row of its signal's values
abbrev pub AdmitSignals : {V : Type 0} → (V → LaneRow → Type 0) → Option ℕ → Net → List V → List V → Type 0
AdmitSignals admits turn net leaves vs = (rows : ℕ → LaneRow) → Admit admits leaves net.inputs rows → Admit admits vs (size net) (signal_row turn net rows)

-- whatever rows the leaves' values admit, the value of each output for which there is room admits the row of the output's values
abbrev pub AdmitOutputs : {V : Type 0} → (V → LaneRow → Type 0) → Net → List V → List V → Type 0
AdmitOutputs {V} admits net leaves outs =
    (rows : ℕ → LaneRow) → Admit admits leaves net.inputs rows → (j : ℕ) (d : V) → j < length net.outputs → j < length outs → admits (slice_index_or outs j d) (λ l. output None net (λ i. rows i l) j)

-- at each of the first n places that is in the set, vs has the value of ws
abbrev pub WalkedWhere : {V : Type 0} → List Bool → ℕ → List V → List V → Type 0
WalkedWhere {V} set n ws vs = (s : ℕ) (d : V) → s < n → is_in set s ≡ true → slice_index_or vs s d ≡ slice_index_or ws s d

-- whatever rows the leaves' values admit, every value in the set admits the row of its signal's values
abbrev pub AdmitWhere : {V : Type 0} → List Bool → (V → LaneRow → Type 0) → Option ℕ → Net → List V → List V → Type 0
AdmitWhere {V} set admits turn net leaves vs =
    (rows : ℕ → LaneRow) → Admit admits leaves net.inputs rows → (s : ℕ) (d : V) → s < size net → is_in set s ≡ true → admits (slice_index_or vs s d) (signal_row turn net rows s)

-- vs is es after one pass upward over the nodes from node first on and below node m: each whose signal is wanted has its value, made from those of vs, and no other place has changed
pub record Passed {V : Type 0} (pick : V → V → V → V) (of : Bool → V) (turn : Option ℕ) (net : Net) (first m : ℕ) (wanted : ℕ → Bool) (es vs : List V) : Type 0 where
  pub made : (n : ℕ) (d : V) → first ≤ n → n < m → wanted (net.inputs + n) ≡ true → slice_index_or vs (net.inputs + n) d ≡ node_step pick of turn (net.inputs + n) (row_at net n) (λ s. slice_index_or vs s d)
  pub below : (s : ℕ) (d : V) → s < net.inputs + first → slice_index_or vs s d ≡ slice_index_or es s d
  pub others : (s : ℕ) (d : V) → wanted s ≡ false → slice_index_or vs s d ≡ slice_index_or es s d
  pub behind : drop (net.inputs + m) vs ≡ drop (net.inputs + m) es
