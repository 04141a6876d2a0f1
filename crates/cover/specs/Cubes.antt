-- Cubes, and the minterms in them.
use Rattle.std.specs.Prelude.{ℕ, ◌-◌, ◌^◌, Bool, cond, List, ◌==◌, bit_and, count_ones, nat_lt}
use Rattle.std.specs.List.{list_any, sum_by}
use Rattle.cover.specs.declared.cube.Cube.{Cube}

-- y has the cube's values under its mask
abbrev pub in_cube : Cube → ℕ → Bool
in_cube c y = bit_and y c.mask == c.values

-- y is in one of the cubes
abbrev pub in_cover : List Cube → ℕ → Bool
in_cover cs y = list_any (λ c. in_cube c y) cs

-- all of 16 bits but bit i
abbrev pub all_but : ℕ → ℕ
all_but i = 2 ^ 16 - 1 - 2 ^ i

-- the bits of mask and values that k has
abbrev pub part : Cube → ℕ → Cube
part c k = record { mask = bit_and c.mask k; values = bit_and c.values k }

-- c without its literal on fanin i
abbrev pub struck : Cube → ℕ → Cube
struck c i = part c (all_but i)

-- all f literals: minterm y alone
abbrev pub start : ℕ → ℕ → Cube
start f y = record { mask = 2 ^ f - 1; values = y }

-- by mask, then by values
abbrev pub cube_below : Cube → Cube → Bool
cube_below c d = cond (c.mask == d.mask) (nat_lt c.values d.values) (nat_lt c.mask d.mask)

-- how many literals the cubes have
abbrev pub literals : List Cube → ℕ
literals cs = sum_by (λ c. count_ones c.mask) cs

-- what a cleared place holds
abbrev pub no_cube : Cube
no_cube = record { mask = 0; values = 0 }
