-- What holds of every cover.
use Rattle.std.specs.Prelude.{◌≡◌, ℕ, ◌^◌, ◌<◌, Bool, true, false, List, length, bit_and, slice_index_or, slice_set}
use Rattle.std.specs.List.{ContainsAt as Has, remove}
use Rattle.network.specs.Rows.{bit_at, bit_of}
use Rattle.network.specs.declared.row.Function.{Function}
use Rattle.roll.specs.Rolls.{ascending}
use Rattle.cover.specs.Cubes.{in_cover, struck, cube_below, no_cube}
use Rattle.cover.specs.declared.care.CareFunction.{CareFunction}
use Rattle.cover.specs.declared.cube.Cube.{Cube}

-- each of f fanins is tried
abbrev pub Tries : ℕ → List ℕ → Type 0
Tries f order = (i : ℕ) → i < f → Has order i

-- y is a care minterm, and the function's value at it is b
abbrev pub IsCare : CareFunction → Bool → ℕ → Type 0
IsCare target b y = (y < 2 ^ target.fanins.count) × (bit_of target.care y ≡ true) × (bit_of target.function y ≡ b)

-- cube k has a literal on fanin i
abbrev pub HasLiteral : List Cube → ℕ → ℕ → Type 0
HasLiteral cs k i = (k < length cs) × (bit_at (slice_index_or cs k no_cube).mask i ≡ true)

-- the cubes, with the literal on fanin i of cube k struck
abbrev pub without_literal : List Cube → ℕ → ℕ → List Cube
without_literal cs k i = slice_set cs k (struck (slice_index_or cs k no_cube) i)

-- the literals of a cube are on the f fanins, and its values lie inside its mask
pub record IsCube (f : ℕ) (c : Cube) : Type 0 where
  pub small : c.mask < 2 ^ f
  pub inside : bit_and c.values c.mask ≡ c.values

pub record Lawful (target : CareFunction) (cs : List Cube) : Type 0 where
  -- every on-minterm is in a cube, and no off-minterm is
  pub on : (y : ℕ) → IsCare target true y → in_cover cs y ≡ true
  pub off : (y : ℕ) → IsCare target false y → in_cover cs y ≡ false
  -- prime: with any one literal struck the cubes hold an off-minterm
  pub prime : (k i : ℕ) → HasLiteral cs k i → (y : ℕ) × IsCare target false y × (in_cover (without_literal cs k i) y ≡ true)
  -- irredundant: with any one cube struck some on-minterm is in no cube
  pub irredundant : (k : ℕ) → k < length cs → (y : ℕ) × IsCare target true y × (in_cover (remove cs k) y ≡ false)
  -- the cubes are ascending, so no two are equal
  pub rising : ascending cube_below cs ≡ true
  pub cube : (k : ℕ) → k < length cs → IsCube target.fanins.count (slice_index_or cs k no_cube)

-- g has the function's value at every care minterm
abbrev pub Agrees : CareFunction → Function → Type 0
Agrees target g = (y : ℕ) → y < 2 ^ target.fanins.count → bit_of target.care y ≡ true → bit_of g y ≡ bit_of target.function y
