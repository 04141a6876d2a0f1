-- Numbers in ascending order.
use Rattle.std.specs.Prelude.{ℕ, zero, suc, ◌<◌, Bool, cond, List, [], ◌∷◌, ◌++◌, length, slice_index}

-- the numbers below n that have p, ascending
unfoldable pub chosen : ℕ → (ℕ → Bool) → List ℕ
chosen zero p = []
chosen (suc n) p = cond (p n) (chosen n p ++ (n ∷ [])) (chosen n p)

-- each number is above the one before it
abbrev pub Ascending : List ℕ → Type 0
Ascending xs = (i j : ℕ) → i < j → j < length xs → slice_index xs i < slice_index xs j
