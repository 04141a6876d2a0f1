-- Lists of signals.
use Rattle.std.specs.Prelude.{ℕ, Bool, List, length, nat_eq, slice_index_or}
use Rattle.std.specs.List.{list_any}
use Rattle.network.specs.Rows.{no_signal}
use Rattle.network.specs.declared.row.Signal.{Signal}
use Rattle.context.specs.Care.{any_below}

-- one of the signals is in the set X
abbrev pub some_in : (ℕ → Bool) → List Signal → Bool
some_in X xs = list_any (λ s. X s.0) xs

-- s is the number of one of the signals
abbrev pub listed : List Signal → ℕ → Bool
listed xs s = any_below (length xs) (λ i. nat_eq (slice_index_or xs i no_signal).0 s)
