-- Assignments of a context's leaves.
use Rattle.std.specs.Prelude.{◌≡◌, ℕ, ◌^◌, ◌<◌, ◌≤◌, Bool, true}
use Rattle.network.specs.Rows.{bit_at}
use Rattle.network.specs.Nets.{Net}
use Rattle.network.specs.Parts.{net_of}
use Rattle.context.specs.Care.{dull}
use Rattle.logic.specs.Lanes.{LaneRow}
use Rattle.window.specs.declared.extracted.Context.{Context}
use Rattle.search.specs.Lists.{has}
use Rattle.search.specs.declared.listed.Listed.{Listed}

-- the context read as a network
abbrev pub net_in : Context → Net
net_in c = net_of c.network

-- how many assignments the leaves have
abbrev pub space : Context → ℕ
space c = 2 ^ (net_in c).inputs

-- under the leaf values x no minterm is shown that is not listed
abbrev pub dull_of : Context → Listed → (ℕ → Bool) → Bool
dull_of c l x = dull (net_in c) c.target (has l) x

-- the same of the assignment of a lane, where leaf i has the row rows i
unfoldable pub dull_in : Context → Listed → (ℕ → LaneRow) → ℕ → Bool
dull_in c l rows lane = dull_of c l (λ i. rows i lane)

-- the same of an assignment as a number
unfoldable pub dull_at : Context → Listed → ℕ → Bool
dull_at c l a = dull_of c l (bit_at a)

-- every assignment from `from` up to and without `upto` is dull
abbrev pub DullIn : Context → Listed → ℕ → ℕ → Type 0
DullIn c l from upto = (a : ℕ) → from ≤ a → a < upto → dull_at c l a ≡ true

-- every assignment below n is dull
abbrev pub DullTo : Context → Listed → ℕ → Type 0
DullTo c l n = (a : ℕ) → a < n → dull_at c l a ≡ true
