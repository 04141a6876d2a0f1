-- Rows of bits, a bit for each lane, and values that admit them.
use Rattle.std.specs.Prelude.{ℕ, ◌<◌, Bool, cond, List, slice_index_or}

-- a bit for each lane
abbrev pub LaneRow : Type 0
LaneRow = ℕ → Bool

-- the bit b in every lane
abbrev pub always : Bool → LaneRow
always b l = b

-- the bit of b in each lane where a has 1, and that of c elsewhere
abbrev pub picked : LaneRow → LaneRow → LaneRow → LaneRow
picked a b c l = cond (a l) (b l) (c l)

-- each of the first n values admits the row of its place
abbrev pub Admit : {V : Type 0} → (V → LaneRow → Type 0) → List V → ℕ → (ℕ → LaneRow) → Type 0
Admit {V} admits vs n rows = (i : ℕ) (d : V) → i < n → admits (slice_index_or vs i d) (rows i)
