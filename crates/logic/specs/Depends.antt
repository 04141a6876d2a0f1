-- Which signals depend on a node.
use Rattle.std.specs.Prelude.{◌≡◌, ℕ, zero, suc, ◌+◌, Bool, false, ◌||◌, List, take, replicate, ◌==◌}
use Rattle.network.specs.Rows.{fanin}
use Rattle.network.specs.Nets.{Net, size}
use Rattle.network.specs.declared.row.Row.{Row}
use Rattle.theory.specs.Values.{built}

-- whether one of the first n fanins of a row is marked
abbrev pub any_marked : Row → (ℕ → Bool) → ℕ → Bool
any_marked r marks zero = false
any_marked r marks (suc n) = any_marked r marks n || marks (fanin r n)

-- whether signal s with row r depends on signal t, at the marks of the lower signals: it is t, or a fanin of it depends on t
abbrev pub depend_step : ℕ → ℕ → Row → (ℕ → Bool) → Bool
depend_step t s r marks = s == t || any_marked r marks r.count

-- for each signal, whether it depends on signal t; an input does not
unfoldable pub dependents : ℕ → Net → List Bool
dependents t net = built (depend_step t) false net.rows (replicate net.inputs false)

-- the marks of the signals are those of what depends on node t
abbrev pub Marked : Net → ℕ → List Bool → Type 0
Marked net t marks = take (size net) marks ≡ dependents (net.inputs + t) net
