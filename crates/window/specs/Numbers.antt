-- The new numbers of leaves and members.
use Rattle.std.specs.Prelude.{◌≡◌, ℕ, ◌<◌, ◌≤◌, Bool, true, ◌||◌, length, slice_index}
use Rattle.network.specs.Nets.{Net, size}
use Rattle.context.specs.Windows.{Members, is_leaf, leaves_of}
use Rattle.context.specs.Extracts.{new_of}
use Rattle.window.specs.Limits.{max_leaves}
use Rattle.window.specs.declared.renumber.Renumbering.{Renumbering}

-- the new number of signal s
abbrev pub new_at : Renumbering → ℕ → ℕ
new_at r s = slice_index r.numbers s

-- new has the number of each member and each leaf
abbrev pub Numbers : Net → (ℕ → Bool) → (ℕ → ℕ) → Type 0
Numbers net member new = (s : ℕ) → s < size net → (member s || is_leaf net member s) ≡ true → new s ≡ new_of net member s

-- the members are those of a context of node t
pub record Ready (net : Net) (member : ℕ → Bool) (t : ℕ) : Type 0 where
  pub members : Members net member t
  pub few : length (leaves_of net member) ≤ max_leaves
