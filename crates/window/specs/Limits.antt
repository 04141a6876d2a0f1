-- How large a context may be.
use Rattle.std.specs.Prelude.{ℕ}

-- leaves of a context
abbrev pub max_leaves : ℕ
max_leaves = 32

-- a level of a window
abbrev pub max_level : ℕ
max_level = 10
