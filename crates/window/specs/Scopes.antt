-- The members that a scope gives a context.
use Rattle.std.specs.Prelude.{ℕ, ◌+◌, Bool, false, ◌||◌, nat_lt}
use Rattle.network.specs.Nets.{Net}
use Rattle.context.specs.Levels.{whole, windowed}
use Rattle.window.specs.Limits.{max_level}
use Rattle.window.specs.declared.scope.Scope.{Scope}
use Rattle.window.specs.declared.scope.Scope.TheVariants.{Whole, Window}

-- a level is above the limit
abbrev pub too_high : Scope → Bool
too_high Whole = false
too_high (Window inward outward) = nat_lt max_level inward || nat_lt max_level outward

-- the members for the target node t
abbrev pub member_of : Net → ℕ → Scope → ℕ → Bool
member_of net t Whole = whole net
member_of net t (Window inward outward) = windowed net (net.inputs + t) inward outward
