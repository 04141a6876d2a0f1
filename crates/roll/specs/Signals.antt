-- The order of signals.
use Rattle.std.specs.Prelude.{Bool, nat_lt}
use Rattle.network.specs.declared.row.Signal.{Signal}

-- the number of s is below that of t
abbrev pub signal_below : Signal → Signal → Bool
signal_below s t = nat_lt s.0 t.0
