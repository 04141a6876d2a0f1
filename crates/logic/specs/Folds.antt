-- What a logic, given by its pick and its constants, makes of a node.
use Rattle.std.specs.Prelude.{◌≡◌, ℕ, zero, suc, ◌+◌, ◌*◌, ◌<◌, Bool, true, false, cond, List, slice_index_or}
use Rattle.network.specs.Rows.{bit_of, fanin}
use Rattle.network.specs.declared.row.Function.{Function}
use Rattle.network.specs.declared.row.Row.{Row}

-- the first n places of vs hold what `at` says
abbrev pub Holds : {V : Type 0} → List V → ℕ → (ℕ → V) → Type 0
Holds {V} vs n at = (i : ℕ) (d : V) → i < n → slice_index_or vs i d ≡ at i

-- from the constants of a function upward: place i, once the values x 0 to x (j - 1) of the first j fanins are folded in,
-- is pick (the last of them, its upper half, its lower half)
abbrev pub folded : {V : Type 0} → (V → V → V → V) → (Bool → V) → Function → (ℕ → V) → ℕ → ℕ → V
folded pick of f x zero i = of (bit_of f i)
folded pick of f x (suc j) i = pick (x j) (folded pick of f x j (2 * i + 1)) (folded pick of f x j (2 * i))

-- the same for a node with row r, at the values v of the lower signals
abbrev pub folded_at : {V : Type 0} → (V → V → V → V) → (Bool → V) → Row → (ℕ → V) → ℕ → ℕ → V
folded_at pick of r v = folded pick of r.function (λ i. v (fanin r i))

-- the node's value: all its fanins are folded in
abbrev pub node_of : {V : Type 0} → (V → V → V → V) → (Bool → V) → Row → (ℕ → V) → V
node_of pick of r v = folded_at pick of r v r.count 0

-- the other value
abbrev pub inverse_of : {V : Type 0} → (V → V → V → V) → (Bool → V) → V → V
inverse_of pick of v = pick v (of false) (of true)

-- v, inverted if b
abbrev pub turned_of : {V : Type 0} → (V → V → V → V) → (Bool → V) → Bool → V → V
turned_of pick of b v = cond b (inverse_of pick of v) v
