-- Which minterms of a node matter at the outputs of a network.
use Rattle.std.specs.Prelude.{◌≡◌, ℕ, zero, suc, ◌^◌, ◌<◌, Bool, true, false, cond, not, ◌&&◌, ◌||◌, length, None, ◌==◌, ◌≢◌}
use Rattle.std.specs.Bool.{xor}
use Rattle.network.specs.Rows.{bit_at, bit_of}
use Rattle.network.specs.Nets.{Net, row_at}
use Rattle.network.specs.declared.row.Function.{Function}
use Rattle.theory.specs.Values.{output, minterm_at, target}

-- some number below n has p
unfoldable pub any_below : ℕ → (ℕ → Bool) → Bool
any_below zero p = false
any_below (suc n) p = p n || any_below n p

-- how many numbers below n have p
unfoldable pub count_below : ℕ → (ℕ → Bool) → ℕ
count_below zero p = 0
count_below (suc n) p = cond (p n) (suc (count_below n p)) (count_below n p)

-- under the assignment x some output differs between the network and the copy with the value of node t inverted
abbrev pub differs : Net → ℕ → (ℕ → Bool) → Bool
differs net t x = any_below (length net.outputs) (λ j. xor (output None net x j) (output (target net t) net x j))

-- the assignment x shows minterm y of node t: its fanins read y, and some output differs
abbrev pub shows : Net → ℕ → (ℕ → Bool) → ℕ → Bool
shows net t x y = minterm_at net t x == y && differs net t x

-- y is a care minterm of node t: some assignment shows it
unfoldable pub care : Net → ℕ → ℕ → Bool
care net t y = any_below (2 ^ net.inputs) (λ a. shows net t (bit_at a) y)

-- every other minterm is free
abbrev pub free : Net → ℕ → ℕ → Bool
free net t y = not (care net t y)

-- how many care minterms node t has
abbrev pub care_count : Net → ℕ → ℕ
care_count net t = count_below (2 ^ (row_at net t).count) (care net t)

-- y is a complete don't-care of node t: under every assignment that makes its fanins read y, every output is the same
-- in the network and in the copy with the node's value inverted
abbrev pub CDC : Net → ℕ → ℕ → Type 0
CDC net t y = (x : ℕ → Bool) → minterm_at net t x ≡ y → (j : ℕ) → j < length net.outputs → output None net x j ≡ output (target net t) net x j

-- given a list of minterms, the assignment x is dull if it shows none that is not listed
abbrev pub dull : Net → ℕ → (ℕ → Bool) → (ℕ → Bool) → Bool
dull net t listed x = not (differs net t x) || listed (minterm_at net t x)

-- every assignment below n is dull
abbrev pub DullBelow : Net → ℕ → (ℕ → Bool) → ℕ → Type 0
DullBelow net t listed n = (a : ℕ) → a < n → dull net t listed (bit_at a) ≡ true

-- f and g have the same value at every care minterm of node t
abbrev pub SameOnCare : Net → ℕ → Function → Function → Type 0
SameOnCare net t f g = (y : ℕ) → care net t y ≡ true → bit_of f y ≡ bit_of g y

-- under some assignment some output has another value in net' than in net
abbrev pub Differ : Net → Net → Type 0
Differ net net' = (x : ℕ → Bool) × (j : ℕ) × (j < length net.outputs) × (output None net' x j ≢ output None net x j)
