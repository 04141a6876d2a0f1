-- Networks that no assignment tells apart at the outputs.
use Rattle.std.specs.Prelude.{◌≡◌, ℕ, ◌^◌, ◌<◌, Bool, length, None}
use Rattle.network.specs.Rows.{bit_of}
use Rattle.network.specs.Nets.{Net}
use Rattle.network.specs.declared.row.Function.{Function}
use Rattle.theory.specs.Values.{output, bit_read}

-- as many inputs, as many outputs, and under every assignment the same value at each output
pub record SameOutputs (net net' : Net) : Type 0 where
  pub inputs : net'.inputs ≡ net.inputs
  pub count : length net'.outputs ≡ length net.outputs
  pub values : (x : ℕ → Bool) (j : ℕ) → j < length net.outputs → output None net' x j ≡ output None net x j

-- f and g are the same function of k fanins
abbrev pub SameFunction : ℕ → Function → Function → Type 0
SameFunction k f g = (y : ℕ) → y < 2 ^ k → bit_of f y ≡ bit_of g y

-- f and g have the same value at every minterm that the fanins of node n can read
abbrev pub SameWhereRead : Net → ℕ → Function → Function → Type 0
SameWhereRead net n f g = (x : ℕ → Bool) → bit_read net n f x ≡ bit_read net n g x
