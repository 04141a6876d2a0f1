-- Ascending lists under an order, which is given as a test: `lt x y` says that x is below y.
use Rattle.std.specs.Prelude.{◌≡◌, ℕ, suc, ◌<◌, ◌≤◌, Bool, true, cond, ◌&&◌, List, [], ◌∷◌, length, take, ◌≢◌, slice_index_or}

-- x is below each entry
abbrev pub under : {X : Type 0} → (X → X → Bool) → X → List X → Bool
under lt x [] = true
under lt x (y ∷ ys) = lt x y && under lt x ys

-- each entry is below every later one
abbrev pub ascending : {X : Type 0} → (X → X → Bool) → List X → Bool
ascending lt [] = true
ascending lt (x ∷ xs) = under lt x xs && ascending lt xs

-- how many entries at the front are below x
abbrev pub place : {X : Type 0} → (X → X → Bool) → X → List X → ℕ
place lt x [] = 0
place lt x (y ∷ ys) = cond (lt y x) (suc (place lt x ys)) 0

-- x put before the first entry that is not below it
abbrev pub entered : {X : Type 0} → (X → X → Bool) → X → List X → List X
entered lt x [] = x ∷ []
entered lt x (y ∷ ys) = cond (lt y x) (y ∷ entered lt x ys) (x ∷ y ∷ ys)

-- no two entries are equal
abbrev pub Distinct : {X : Type 0} → List X → Type 0
Distinct {X = X} xs = (i j : ℕ) (d : X) → i < j → j < length xs → slice_index_or xs i d ≢ slice_index_or xs j d

-- the first n places of a list are a roll
pub record IsRoll {X : Type 0} (lt : X → X → Bool) (n : ℕ) (places : List X) : Type 0 where
  pub fits : n ≤ length places
  pub rising : ascending lt (take n places) ≡ true
