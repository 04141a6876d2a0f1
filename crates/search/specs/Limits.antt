-- How large a look may be.
use Rattle.std.specs.Prelude.{ℕ}

-- the budget of a look
abbrev pub max_budget : ℕ
max_budget = 65536
