-- When a context is built, and what it is.
use Rattle.std.specs.Prelude.{◌≡◌, ℕ, ◌≤◌, Bool, cond, length, None, Ok, Err, vec_items, Option, Result, nat_le, nat_lt}
use Rattle.network.specs.Nets.{Net, nodes}
use Rattle.network.specs.Parts.{net_of}
use Rattle.context.specs.Windows.{leaves_of}
use Rattle.context.specs.Extracts.{place_of, extract_of}
use Rattle.window.specs.Limits.{max_leaves}
use Rattle.window.specs.Refusals.{number_of}
use Rattle.window.specs.Scopes.{too_high, member_of}
use Rattle.window.specs.Entries.{leaf_signals, NoLeaves}
use Rattle.window.specs.declared.scope.Scope.{Scope}
use Rattle.window.specs.declared.extracted.Context.{Context}
use Rattle.window.specs.declared.refusal.ContextError.{ContextError}
use Rattle.window.specs.declared.refusal.ContextError.TheVariants.{NoNode, Level, Leaves}

-- there are more leaves than a context may have
abbrev pub too_many : Net → (ℕ → Bool) → Bool
too_many net member = nat_lt max_leaves (length (leaves_of net member))

-- the number of the first refusal that applies
abbrev pub refusal_of : Net → ℕ → Scope → Option ℕ
refusal_of net t scope =
    cond (nat_le (nodes net) t) (number_of NoNode) (cond (too_high scope) (number_of Level) (cond (too_many net (member_of net t scope)) (number_of Leaves) None))

-- the context is that of node t with those members
pub record IsContext (net : Net) (member : ℕ → Bool) (t : ℕ) (c : Context) : Type 0 where
  pub network : net_of c.network ≡ extract_of net member t
  pub target : c.target ≡ place_of net member t
  pub leaves : vec_items c.leaves ≡ leaf_signals net member

-- the context with those members, if it has few leaves and there is memory
abbrev pub Gathers : Net → (ℕ → Bool) → ℕ → Result Context ContextError → Type 0
Gathers net member t (Ok c) = (length (leaves_of net member) ≤ max_leaves) × IsContext net member t c
Gathers net member t (Err e) = NoLeaves net member e

-- what building the context of node t answers; want of memory has no number, and can be the answer only if no refusal applies
abbrev pub Builds : Net → ℕ → Scope → Result Context ContextError → Type 0
Builds net t scope (Ok c) = (refusal_of net t scope ≡ None) × IsContext net (member_of net t scope) t c
Builds net t scope (Err e) = refusal_of net t scope ≡ number_of e
