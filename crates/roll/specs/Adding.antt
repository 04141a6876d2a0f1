-- What adding an entry to a roll does, and what each answer means.
use Rattle.std.specs.Prelude.{◌≡◌, ℕ, ◌+◌, ◌<◌, ◌≤◌, Bool, List, ◌++◌, length, take, drop}
use Rattle.std.specs.List.{ContainsAt as Has, HoldsAt}
use Rattle.roll.specs.Rolls.{place, entered}
use Rattle.roll.specs.declared.added.Added.{Added}
use Rattle.roll.specs.declared.added.Added.TheVariants.{Entered, Present, Full}

-- x stands at a place of the list
abbrev pub Stands : {X : Type 0} → X → List X → ℕ → Type 0
Stands x xs at = (at < length xs) × HoldsAt (λ y. y ≡ x) xs at

-- x is no entry of the list, and its place is `at`
abbrev pub Goes : {X : Type 0} → (X → X → Bool) → X → List X → ℕ → Type 0
Goes lt x xs at = (Has xs x → ⊥) × (at ≡ place lt x xs)

-- x is added to the n entries that stand first in the list `before`, which is `after` then
abbrev pub Adds : {X : Type 0} → (X → X → Bool) → X → ℕ → List X → Added → List X → Type 0
Adds lt x n before Entered after = (Has (take n before) x → ⊥) × (n < length before) × (after ≡ entered lt x (take n before) ++ drop (n + 1) before)
Adds lt x n before Present after = Has (take n before) x × (after ≡ before)
Adds lt x n before Full after = (Has (take n before) x → ⊥) × (length before ≤ n) × (after ≡ before)

-- how many entries more there are after an answer
abbrev pub grown : Added → ℕ
grown Entered = 1
grown Present = 0
grown Full = 0
