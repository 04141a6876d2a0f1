-- Which signals a look has to value.
use Rattle.std.specs.Prelude.{◌≡◌, ℕ, ◌+◌, ◌<◌, ◌≤◌, Bool, true, ◌&&◌, ◌||◌, length, ◌==◌}
use Rattle.network.specs.Nets.{Net, nodes, size, row_at, output_at}
use Rattle.context.specs.Care.{any_below}
use Rattle.context.specs.Levels.{is_fanin}
use Rattle.context.specs.Windows.{is_output}
use Rattle.logic.specs.Sets.{Closed}
use Rattle.logic.specs.Depends.{Marked}
use Rattle.window.specs.Sets.{has}
use Rattle.window.specs.declared.set.SignalSet.{SignalSet}
use Rattle.window.specs.declared.extracted.Context.{Context}
use Rattle.search.specs.Contexts.{net_in}
use Rattle.search.specs.declared.plan.Plan.{Plan}

-- why signal s has to be valued: it is the target or a root, or a node that has to be valued reads it
abbrev pub is_wanted : Net → ℕ → (ℕ → Bool) → ℕ → Bool
is_wanted net t needed s = net.inputs + t == s || (is_output net s || any_below (nodes net) (λ n. needed (net.inputs + n) && is_fanin (row_at net n) s))

-- the signals that matter to the target or to a root, and no others
pub record Needs (net : Net) (t : ℕ) (needed : SignalSet) : Type 0 where
  pub target : has needed (net.inputs + t) ≡ true
  pub root : (j : ℕ) → j < length net.outputs → has needed (output_at net j) ≡ true
  pub closed : Closed net needed.flags
  pub least : (s : ℕ) → has needed s ≡ true → is_wanted net t (has needed) s ≡ true

-- the signals that have to be valued, and those that depend on the target
pub record Plans (c : Context) (p : Plan) : Type 0 where
  pub needs : Needs (net_in c) c.target p.needed
  pub marked : Marked (net_in c) c.target p.marks
  pub room : size (net_in c) ≤ length p.needed.flags
  pub long : size (net_in c) ≤ length p.marks
