-- Functions of minterms, and what a row has to meet as the row of a signal.
use Rattle.std.specs.Prelude.{◌≡◌, ℕ, ◌/◌, ◌%◌, ◌^◌, ◌<◌, ◌≤◌, Bool, false, [], length, ◌==◌, slice_index, slice_index_or}
use Rattle.network.specs.Limits.{max_fanins, minterms, function_bytes}
use Rattle.network.specs.declared.row.Signal.{Signal}
use Rattle.network.specs.declared.row.Function.{Function}
use Rattle.network.specs.declared.row.Row.{Row}

-- bit i of the number n
unfoldable pub bit_at : ℕ → ℕ → Bool
bit_at n i = n / 2 ^ i % 2 == 1

-- the value of a function at minterm y: bit y mod 8 of byte y div 8
unfoldable pub bit_of : Function → ℕ → Bool
bit_of f y = bit_at (slice_index f.bytes (y / 8)) (y % 8)

-- the signal that stands past the end of a list of signals
abbrev pub no_signal : Signal
no_signal = record { 0 = 0 }

-- the number of fanin i
abbrev pub fanin : Row → ℕ → ℕ
fanin r i = (slice_index_or r.fanins i no_signal).0

-- every fanin is a lower signal than s
abbrev pub Lower : ℕ → Row → Type 0
Lower s r = (i : ℕ) → i < r.count → fanin r i < s

-- the places past the last fanin hold 0
abbrev pub Unused : Row → Type 0
Unused r = (i : ℕ) → r.count ≤ i → fanin r i ≡ 0

-- no bit at or above 2 ^ c is set
abbrev pub Clean : ℕ → Function → Type 0
Clean c f = (y : ℕ) → 2 ^ c ≤ y → y < minterms → bit_of f y ≡ false

-- every byte of the function is one
abbrev pub Bytes : Function → Type 0
Bytes f = (k : ℕ) → slice_index f.bytes k < 256

-- the row of signal s: at most 8 fanins, each a lower signal, and a function of their minterms alone.
-- Equal nodes have equal rows, since what is not used is 0.
pub record Legal (s : ℕ) (r : Row) : Type 0 where
  pub few : r.count ≤ max_fanins
  pub lower : Lower s r
  pub unused : Unused r
  pub clean : Clean r.count r.function
  pub places : length r.fanins ≡ max_fanins
  pub bytes : length r.function.bytes ≡ function_bytes
  pub byte : Bytes r.function

-- what stands past the end of a list of rows
abbrev pub blank : Row
blank = record { count = 0; fanins = []; function = record { bytes = [] } }

-- the row with another function
abbrev pub with_function : Row → Function → Row
with_function r f = record { count = r.count; fanins = r.fanins; function = f }
