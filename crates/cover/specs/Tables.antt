-- Sets of minterms as truth tables.
use Rattle.std.specs.Prelude.{◌≡◌, ℕ, ◌<◌, Bool, true, List, [], filter}
use Rattle.std.specs.List.{range_with_len}
use Rattle.network.specs.Limits.{minterms}
use Rattle.network.specs.Rows.{bit_of}
use Rattle.network.specs.declared.row.Function.{Function}
use Rattle.cover.specs.Cubes.{in_cube}
use Rattle.cover.specs.declared.cube.Cube.{Cube}

-- the table s is 1 exactly at the minterms that pass the test
abbrev pub IsSet : Function → (ℕ → Bool) → Type 0
IsSet s test = (y : ℕ) → y < minterms → bit_of s y ≡ test y

-- the minterms below n at which the table is 1, ascending
unfoldable pub members_below : ℕ → Function → List ℕ
members_below n s = filter (bit_of s) (range_with_len 0 n)

-- all of them
unfoldable pub members : Function → List ℕ
members s = members_below minterms s

-- a minterm of the set s is in the cube
abbrev pub Meets : Function → Cube → Type 0
Meets s c = (y : ℕ) × (y < minterms) × (bit_of s y ≡ true) × (in_cube c y ≡ true)

-- what stands past the end of a list of tables
abbrev pub no_table : Function
no_table = record { bytes = [] }
