-- The items of a list.
use Rattle.std.specs.Prelude.{◌≡◌, ℕ, ◌<◌, List, length, slice_index_or}

-- x is item k of the list
abbrev pub IsItem : {T : Type 0} → List T → ℕ → T → Type 0
IsItem xs k x = (k < length xs) × (slice_index_or xs k x ≡ x)
