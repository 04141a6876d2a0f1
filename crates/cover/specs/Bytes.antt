-- The truth table of a cube, byte by byte: the first three fanins choose a bit of a byte, the others the byte.
use Rattle.std.specs.Prelude.{ℕ, ◌-◌, ◌/◌, Bool, true, false, cond, ◌==◌, bit_and}
use Rattle.network.specs.Rows.{bit_at}
use Rattle.cover.specs.declared.cube.Cube.{Cube}

-- of the minterms of a byte, those that agree with a cube on one fanin: a literal asks for the value, and the axis has those with value 1
abbrev pub agrees : Bool → Bool → ℕ → ℕ
agrees true true axis = axis
agrees true false axis = 255 - axis
agrees false true axis = 0
agrees false false axis = 255

-- of the minterms of a byte, those that agree with the mask m and values v on the first three fanins
unfoldable pub low_byte : ℕ → ℕ → ℕ
low_byte m v = bit_and (bit_and (agrees (bit_at m 0) (bit_at v 0) 0xaa) (agrees (bit_at m 1) (bit_at v 1) 0xcc)) (agrees (bit_at m 2) (bit_at v 2) 0xf0)

-- byte k of the truth table of a cube
unfoldable pub byte_of : Cube → ℕ → ℕ
byte_of c k = cond (bit_and k (c.mask / 8) == c.values / 8) (low_byte c.mask c.values) 0
