-- What holds of a context that was built for node t of a network.
use Rattle.std.specs.Prelude.{◌≡◌, ℕ, ◌+◌, Bool, true, IfOk, None, vec_items, Decides, Result, ◌≢◌, slice_index_or}
use Rattle.network.specs.Rows.{no_signal, bit_of}
use Rattle.network.specs.Nets.{Net, replaced}
use Rattle.network.specs.Parts.{net_of}
use Rattle.network.specs.declared.row.Function.{Function}
use Rattle.theory.specs.Values.{value, target}
use Rattle.theory.specs.Same.{SameOutputs}
use Rattle.context.specs.Care.{care, free, CDC, SameOnCare, Differ}
use Rattle.context.specs.Levels.{Within}
use Rattle.context.specs.Extracts.{new_of, ValuedInPlace}
use Rattle.window.specs.Scopes.{member_of}
use Rattle.window.specs.Contexts.{IsContext}
use Rattle.window.specs.declared.scope.Scope.{Scope}
use Rattle.window.specs.declared.scope.Scope.TheVariants.{Whole, Window}
use Rattle.window.specs.declared.extracted.Context.{Context}
use Rattle.window.specs.declared.refusal.ContextError.{ContextError}

-- the members of a window are the nodes that paths make its members
abbrev pub ByPaths : Net → ℕ → Scope → Type 0
ByPaths net t scope = (p q : ℕ) → scope ≡ Window p q → (s : ℕ) → Decides (member_of net t scope s) (Within net (net.inputs + t) p q s)

-- a fact about the context, if there is one
abbrev pub OfContext : Result Context ContextError → (Context → Type 0) → Type 0
OfContext r P = IfOk r P

-- the leaf assignment that gives each leaf its value in u
abbrev pub leaf_bits : Context → (ℕ → Bool) → ℕ → Bool
leaf_bits c u i = u (slice_index_or (vec_items c.leaves) i no_signal).0

-- under the leaf values that an assignment of the network's inputs gives, every member has its value in the network
abbrev pub SameValues : Net → ℕ → Scope → Context → Type 0
SameValues net t scope c =
    (x : ℕ → Bool) (s : ℕ) → member_of net t scope s ≡ true → value None (net_of c.network) (leaf_bits c (value None net x)) (new_of net (member_of net t scope) s) ≡ value None net x s

-- so it does where the members are valued in place with the target inverted
abbrev pub SameInverted : Net → ℕ → Scope → Context → Type 0
SameInverted net t scope c =
    (u : ℕ → Bool) → ValuedInPlace (target net t) net (member_of net t scope) u → (s : ℕ) → member_of net t scope s ≡ true →
    value (target (net_of c.network) c.target) (net_of c.network) (leaf_bits c u) (new_of net (member_of net t scope) s) ≡ u s

-- a minterm is free in the context exactly if it is a complete don't-care of the context read as a network
abbrev pub FreeExactly : Context → Type 0
FreeExactly c = (y : ℕ) → Decides (free (net_of c.network) c.target y) (CDC (net_of c.network) c.target y)

-- each free minterm is a complete don't-care of the network
abbrev pub FreeSoundly : Net → ℕ → Context → Type 0
FreeSoundly net t c = (y : ℕ) → free (net_of c.network) c.target y ≡ true → CDC net t y

-- in the whole context the free minterms are exactly the complete don't-cares of the network, over all its inputs
abbrev pub FreeInWhole : Net → ℕ → Scope → Context → Type 0
FreeInWhole net t scope c = scope ≡ Whole → (y : ℕ) → Decides (free (net_of c.network) c.target y) (CDC net t y)

-- whatever function the target has, the context has the same care minterms
abbrev pub OwnFunction : Net → ℕ → Scope → Context → Type 0
OwnFunction net t scope c =
    (f : Function) (c' : Context) → IsContext (replaced net t f) (member_of (replaced net t f) t scope) t c' →
    (y : ℕ) → care (net_of c'.network) c'.target y ≡ care (net_of c.network) c.target y

-- two functions of the target that agree on every care minterm give networks with the same outputs
abbrev pub Safe : Net → ℕ → Context → Type 0
Safe net t c = (f g : Function) → SameOnCare (net_of c.network) c.target f g → SameOutputs (replaced net t f) (replaced net t g)

-- in the whole context two functions that differ on some care minterm give networks that differ in some output for some input
abbrev pub Harmful : Net → ℕ → Scope → Context → Type 0
Harmful net t scope c =
    scope ≡ Whole → (f g : Function) (y : ℕ) → care (net_of c.network) c.target y ≡ true → (bit_of f y ≢ bit_of g y) → Differ (replaced net t f) (replaced net t g)
