-- Words as values: bit l of a word is the bit of lane l.
use Rattle.std.specs.Prelude.{◌≡◌, ℕ, ◌-◌, ◌%◌, ◌^◌, ◌<◌, Bool, true, false, bit_and, bit_or}
use Rattle.network.specs.Rows.{bit_at}
use Rattle.logic.specs.Limits.{word_bits}
use Rattle.logic.specs.Lanes.{LaneRow}

abbrev pub word_admits : ℕ → LaneRow → Type 0
word_admits v a = (l : ℕ) → l < word_bits → bit_at v l ≡ a l

-- the bit b in every lane
abbrev pub word_of : Bool → ℕ
word_of true = 2 ^ word_bits - 1
word_of false = 0

-- the other bit in every lane; a word is its number's low bits
abbrev pub word_not : ℕ → ℕ
word_not s = 2 ^ word_bits - 1 - s % 2 ^ word_bits

abbrev pub word_pick : ℕ → ℕ → ℕ → ℕ
word_pick s h l = bit_or (bit_and s h) (bit_and (word_not s) l)
