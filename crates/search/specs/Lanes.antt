-- What the lanes of some values show.
use Rattle.std.specs.Prelude.{◌≡◌, ℕ, ◌<◌, Bool, true, false, List, length, get_or, Some, None, Option, slice_index_or}
use Rattle.std.specs.Bool.{xor}
use Rattle.network.specs.Rows.{no_signal, fanin}
use Rattle.network.specs.Nets.{row_at, output_at}
use Rattle.network.specs.declared.row.Signal.{Signal}
use Rattle.network.specs.declared.row.Row.{Row}
use Rattle.theory.specs.Values.{target}
use Rattle.logic.specs.Lanes.{LaneRow}
use Rattle.logic.specs.Walks.{walked, signal_row}
use Rattle.window.specs.declared.extracted.Context.{Context}
use Rattle.search.specs.Contexts.{net_in}

-- the value of each of the signals admits its row
abbrev pub AdmitEach : {V : Type 0} → (V → LaneRow → Type 0) → List Signal → List V → (ℕ → LaneRow) → Type 0
AdmitEach {V} admits ss vs rows = (j : ℕ) (d : V) → j < length ss → admits (slice_index_or vs (get_or ss j no_signal).0 d) (rows (get_or ss j no_signal).0)

-- the value of each fanin admits its row
abbrev pub AdmitFanins : {V : Type 0} → (V → LaneRow → Type 0) → Row → List V → (ℕ → LaneRow) → Type 0
AdmitFanins {V} admits r vs rows = (i : ℕ) (d : V) → i < r.count → admits (slice_index_or vs (fanin r i) d) (rows (fanin r i))

-- the values of a signal in two lists have different bits in lane l
abbrev pub unlike : {V : Type 0} → (V → LaneRow) → List V → List V → ℕ → V → Signal → Bool
unlike row plain turned l d s = xor (row (slice_index_or plain s.0 d) l) (row (slice_index_or turned s.0 d) l)

-- the two walks' values admit, at the roots and at the target's fanins, the rows of the signals where leaf i has the row rows i
pub record Shown {V : Type 0} (admits : V → LaneRow → Type 0) (c : Context) (rows : ℕ → LaneRow) (plain turned : List V) : Type 0 where
  pub roots : AdmitEach admits (net_in c).outputs plain (signal_row None (net_in c) rows)
  pub inverted : AdmitEach admits (net_in c).outputs turned (signal_row (target (net_in c) c.target) (net_in c) rows)
  pub fanins : AdmitFanins admits (row_at (net_in c) c.target) plain (signal_row None (net_in c) rows)

-- at the roots and at the target's fanins the slices have the values of the two walks from the leaves' values
pub record Valued {V : Type 0} (pick : V → V → V → V) (of : Bool → V) (c : Context) (leaves plain turned : List V) : Type 0 where
  pub roots : (j : ℕ) (d : V) → j < length (net_in c).outputs → slice_index_or plain (output_at (net_in c) j) d ≡ slice_index_or (walked pick of None (net_in c).rows leaves) (output_at (net_in c) j) d
  pub inverted : (j : ℕ) (d : V) → j < length (net_in c).outputs → slice_index_or turned (output_at (net_in c) j) d ≡ slice_index_or (walked pick of (target (net_in c) c.target) (net_in c).rows leaves) (output_at (net_in c) j) d
  pub fanins : (i : ℕ) (d : V) → i < (row_at (net_in c) c.target).count → slice_index_or plain (fanin (row_at (net_in c) c.target) i) d ≡ slice_index_or (walked pick of None (net_in c).rows leaves) (fanin (row_at (net_in c) c.target) i) d

-- the lowest number below n at which the test fails
abbrev pub Lowest : ℕ → (ℕ → Bool) → Option ℕ → Type 0
Lowest n test None = (l : ℕ) → l < n → test l ≡ true
Lowest n test (Some l) = (l < n) × (test l ≡ false) × ((m : ℕ) → m < l → test m ≡ true)
