-- The values of a network's signals under an assignment x, which gives input i the value x i, with the value of one node inverted or of none.
-- The inverted node is named by its signal; the number of an input inverts nothing.
use Rattle.std.specs.Prelude.{◌≡◌, ℕ, zero, suc, ◌+◌, ◌^◌, ◌<◌, Bool, false, cond, not, List, [], ◌∷◌, ◌++◌, map, length, get_or, Some, None, Option, ◌==◌, slice_index_or}
use Rattle.std.specs.List.{range_with_len}
use Rattle.network.specs.Rows.{bit_of, fanin, Lower}
use Rattle.network.specs.Nets.{Net, nodes, row_at, output_at}
use Rattle.network.specs.declared.row.Function.{Function}
use Rattle.network.specs.declared.row.Row.{Row}

-- x and y are equal below k
abbrev pub AgreeBelow : ℕ → (ℕ → Bool) → (ℕ → Bool) → Type 0
AgreeBelow k x y = (i : ℕ) → i < k → x i ≡ y i

-- the number whose bit i, below j, is x i
unfoldable pub number : (ℕ → Bool) → ℕ → ℕ
number x zero = 0
number x (suc j) = number x j + cond (x j) (2 ^ j) 0

-- the minterm that the fanins of a row read at the values v: bit i is the value of fanin i
unfoldable pub reads : Row → (ℕ → Bool) → ℕ
reads r v = number (λ i. v (fanin r i)) r.count

-- a row's value, at the values v of the lower signals
abbrev pub value_of : Row → (ℕ → Bool) → Bool
value_of r v = bit_of r.function (reads r v)

-- whether signal s is the one to invert
unfoldable pub turns : Option ℕ → ℕ → Bool
turns None s = false
turns (Some t) s = t == s

-- v, inverted if b
abbrev pub flipped : Bool → Bool → Bool
flipped b v = cond b (not v) v

-- one pass upward over the rows: the entry of each row, made from the entries before it, is put behind them; d stands past the end
unfoldable pub built : {A : Type 0} → (ℕ → Row → (ℕ → A) → A) → A → List Row → List A → List A
built step d [] vs = vs
built step d (r ∷ rs) vs = built step d rs (vs ++ (step (length vs) r (λ s. get_or vs s d) ∷ []))

-- the value of signal s with row r, at the values v of the lower signals
abbrev pub value_step : Option ℕ → ℕ → Row → (ℕ → Bool) → Bool
value_step turn s r v = flipped (turns turn s) (value_of r v)

-- the values of the inputs, followed by those of the rows
abbrev pub valued : Option ℕ → List Row → List Bool → List Bool
valued turn rs vs = built (value_step turn) false rs vs

-- the value of signal s under the assignment x; false at a number that is no signal
unfoldable pub value : Option ℕ → Net → (ℕ → Bool) → ℕ → Bool
value turn net x s = slice_index_or (valued turn net.rows (map x (range_with_len 0 net.inputs))) s false

-- the value of output j under the assignment x
abbrev pub output : Option ℕ → Net → (ℕ → Bool) → ℕ → Bool
output turn net x j = value turn net x (output_at net j)

-- the minterm that the fanins of node n read under the assignment x
abbrev pub minterm_at : Net → ℕ → (ℕ → Bool) → ℕ
minterm_at net n x = reads (row_at net n) (value None net x)

-- the value of f at that minterm
abbrev pub bit_read : Net → ℕ → Function → (ℕ → Bool) → Bool
bit_read net n f x = bit_of f (minterm_at net n x)

-- the inversion of node n
abbrev pub target : Net → ℕ → Option ℕ
target net n = Some (net.inputs + n)

-- v agrees with the assignment at the inputs, and with every row
pub record Values (turn : Option ℕ) (net : Net) (x v : ℕ → Bool) : Type 0 where
  pub input : (i : ℕ) → i < net.inputs → v i ≡ x i
  pub node : (n : ℕ) → n < nodes net → v (net.inputs + n) ≡ flipped (turns turn (net.inputs + n)) (value_of (row_at net n) v)

-- every fanin of a node is a lower signal, so there is no cycle
abbrev pub Lowers : Net → Type 0
Lowers net = (n : ℕ) → n < nodes net → Lower (net.inputs + n) (row_at net n)
