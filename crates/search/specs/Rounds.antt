-- Rounds: the assignments of the lanes of some words.
use Rattle.std.specs.Prelude.{ℕ, List, Option, slice_index}
use Rattle.network.specs.Rows.{bit_at}
use Rattle.theory.specs.Values.{number}
use Rattle.logic.specs.Limits.{word_bits}
use Rattle.window.specs.declared.extracted.Context.{Context}
use Rattle.search.specs.Contexts.{net_in, dull_at}
use Rattle.search.specs.Lanes.{Lowest}
use Rattle.search.specs.declared.listed.Listed.{Listed}

-- the assignment of a lane, where bit l of word i is the value of leaf i in lane l
unfoldable pub lane_at : Context → List ℕ → ℕ → ℕ
lane_at c words l = number (λ i. bit_at (slice_index words i) l) (net_in c).inputs

-- the lowest lane whose assignment is not dull
abbrev pub Round : Context → Listed → List ℕ → Option ℕ → Type 0
Round c l words r = Lowest word_bits (λ lane. dull_at c l (lane_at c words lane)) r
