-- A context that was built, and what holds of it.
use Rattle.std.proofs.Common.{◌≡◌, ℕ, ◌+◌, ◌<◌, ◌≤◌, Bool, true, false, cond, leb, List, length, get_or, Some, None, Ok, Err, vec_items, Decides, Option, Result, sym, ap, ◌∙◌, ⊎_elim, arith}
use mathlib.Core.Path.{subst⁻¹}
use Rattle.std.proofs.lemmas.List.{length-map, get_or-map, get_or_past}
use Rattle.std.proofs.lemmas.Bool.{cases_lt, or_left, cond-true, cond-false, lt-leb, le-leb, lt-ltb, le-ltb}
use Rattle.network.specs.Rows.{no_signal, bit_of}
use Rattle.network.specs.Nets.{Net, nodes, LegalNet, replaced}
use Rattle.network.specs.Parts.{net_of}
use Rattle.network.specs.declared.row.Signal.{Signal}
use Rattle.network.specs.declared.row.Function.{Function}
use Rattle.theory.specs.Values.{value, target}
use Rattle.theory.specs.Same.{SameOutputs}
use Rattle.context.specs.Care.{care, free, CDC, SameOnCare, Differ}
use Rattle.context.specs.Levels.{whole, Within}
use Rattle.context.specs.Windows.{Members, is_leaf, leaves_of}
use Rattle.context.specs.Extracts.{new_of, place_of, extract_of, signal_of, leaf_values}
use Rattle.context.proofs.Levels.{whole-members, windowed-members, windowed-exact}
use Rattle.context.proofs.Made.{extract-is, extract-number}
use Rattle.context.proofs.Replaced.{whole-replaced, windowed-replaced}
use Rattle.context.proofs.Rules.{context-rules, context-own, whole-rules, whole-place, extract-values, extract-turned}
use Rattle.window.specs.Limits.{max_leaves}
use Rattle.window.specs.Refusals.{number_of}
use Rattle.window.specs.Scopes.{too_high, member_of}
use Rattle.window.specs.Entries.{leaf_signals}
use Rattle.window.specs.Numbers.{Numbers}
use Rattle.window.specs.Contexts.{too_many, refusal_of, IsContext, Gathers, Builds}
use Rattle.window.specs.Laws.{ByPaths, OfContext, leaf_bits, SameValues, SameInverted, FreeExactly, FreeSoundly, FreeInWhole, OwnFunction, Safe, Harmful}
use Rattle.window.specs.declared.scope.Scope.{Scope}
use Rattle.window.specs.declared.scope.Scope.TheVariants.{Whole, Window}
use Rattle.window.specs.declared.extracted.Context.{Context}
use Rattle.window.specs.declared.refusal.ContextError.{ContextError}
use Rattle.window.specs.declared.refusal.ContextError.TheVariants.{NoNode, Level, Leaves, NoMemory}
use Rattle.window.proofs.Functions.{same_set}

-- the members of a scope are those of a context
pub scope-members : (net : Net) (t : ℕ) (scope : Scope) → t < nodes net → Members net (member_of net t scope) t
scope-members net t Whole l = whole-members net t l
scope-members net t (Window p q) l = windowed-members net t p q l

pub by-paths : (net : Net) (t : ℕ) (scope : Scope) → ByPaths net t scope
by-paths net t scope p q e s = subst⁻¹ (λ (v : Scope). Decides (member_of net t v s) (Within net (net.inputs + t) p q s)) e (windowed-exact net (net.inputs + t) p q s)

scope-replaced : (net : Net) (t : ℕ) (f : Function) (scope : Scope) → t < nodes net → member_of (replaced net t f) t scope ≡ member_of net t scope
scope-replaced net t f Whole l = same_set (whole-replaced net t f l)
scope-replaced net t f (Window p q) l = same_set (windowed-replaced net t f l (net.inputs + t) p q)

-- there is the node, and no level is too high
module _ (net : Net) (t : ℕ) (scope : Scope) (l : t < nodes net) (low : too_high scope ≡ false) where
  rest : refusal_of net t scope ≡ cond (too_many net (member_of net t scope)) (number_of Leaves) None
  rest = cond-false (leb (nodes net) t) _ _ (lt-leb (nodes net) t l) ∙ cond-false (too_high scope) _ _ low

  accepted : length (leaves_of net (member_of net t scope)) ≤ max_leaves → refusal_of net t scope ≡ None
  accepted few = rest ∙ cond-false (too_many net (member_of net t scope)) _ _ (le-ltb _ _ few)

  pub judged : (r : Result Context ContextError) → Gathers net (member_of net t scope) t r → Builds net t scope r
  judged (Ok c) h = (accepted h.0, h.1)
  judged (Err NoNode) h = absurd h
  judged (Err Level) h = absurd h
  judged (Err Leaves) h = rest ∙ cond-true (too_many net (member_of net t scope)) _ _ (lt-ltb _ _ h)
  judged (Err NoMemory) h = accepted h

-- leaf values by the context's own list
leaf-same : (net : Net) (m : ℕ → Bool) (xs : List Signal) (u : ℕ → Bool) → xs ≡ leaf_signals net m → (i : ℕ) → u (get_or xs i no_signal).0 ≡ leaf_values net m u i
leaf-same net m xs u e i =
    ap (λ (ys : List Signal). u (get_or ys i no_signal).0) e
    ∙ ap u (⊎_elim
    (λ l. ap (λ (s : Signal). s.0) (get_or-map signal_of (leaves_of net m) i 0 no_signal l))
    (λ l.
    ap (λ (s : Signal). s.0) (get_or_past (leaf_signals net m) i no_signal (omega (arith, length-map (leaves_of net m) signal_of)))
    ∙ sym (get_or_past (leaves_of net m) i 0 l))
    (cases_lt i (length (leaves_of net m))))

module _ (net : Net) (t : ℕ) (scope : Scope) (legal : LegalNet net) (l : t < nodes net) (c : Context) (is : IsContext net (member_of net t scope) t c) where
  m : ℕ → Bool
  m = member_of net t scope

  mem : Members net m t
  unfolding m
  mem = scope-members net t scope l

  -- a fact about the extraction is one about the context
  across : (P : Net → ℕ → Type 0) → P (extract_of net (member_of net t scope) t) (place_of net (member_of net t scope) t) → P (net_of c.network) c.target
  across P h = subst⁻¹ (λ (w : Net). P w c.target) is.network (subst⁻¹ (P (extract_of net (member_of net t scope) t)) is.target h)

  bits : (u : ℕ → Bool) → leaf_bits c u ≡ leaf_values net (member_of net t scope) u
  bits u = same_set (leaf-same net (member_of net t scope) (vec_items c.leaves) u is.leaves)

  pub same-values : SameValues net t scope c
  unfolding m mem
  same-values x s h =
      across (λ w _. value None w (leaf_bits c (value None net x)) (new_of net (member_of net t scope) s) ≡ value None net x s)
      (ap (λ b. value None (extract_of net (member_of net t scope) t) b (new_of net (member_of net t scope) s)) (bits (value None net x)) ∙ extract-values net (member_of net t scope) t legal mem x s h)

  pub same-inverted : SameInverted net t scope c
  unfolding m mem
  same-inverted u fits s h =
      across (λ w k. value (target w k) w (leaf_bits c u) (new_of net (member_of net t scope) s) ≡ u s)
      (ap (λ b. value (target (extract_of net (member_of net t scope) t) (place_of net (member_of net t scope) t)) (extract_of net (member_of net t scope) t) b (new_of net (member_of net t scope) s)) (bits u)
      ∙ extract-turned net (member_of net t scope) t legal mem u fits s h)

  pub free-exactly : FreeExactly c
  unfolding m mem
  free-exactly = across (λ w k. (y : ℕ) → Decides (free w k y) (CDC w k y)) (context-rules net (member_of net t scope) t legal mem).exact

  pub free-soundly : FreeSoundly net t c
  unfolding m mem
  free-soundly = across (λ w k. (y : ℕ) → free w k y ≡ true → CDC net t y) (context-rules net (member_of net t scope) t legal mem).sound

  pub safe-so : Safe net t c
  unfolding m mem
  safe-so = across (λ w k. (f g : Function) → SameOnCare w k f g → SameOutputs (replaced net t f) (replaced net t g)) (context-rules net (member_of net t scope) t legal mem).safe

  pub own-function : OwnFunction net t scope c
  unfolding m mem
  own-function f c' is' y =
      let e : member_of (replaced net t f) t scope ≡ member_of net t scope = scope-replaced net t f scope l in
      ap (λ (w : Net). care w c'.target y) is'.network ∙ ap (λ k. care (extract_of (replaced net t f) (member_of (replaced net t f) t scope) t) k y) is'.target
      ∙ ap (λ (b : ℕ → Bool). care (extract_of (replaced net t f) b t) (place_of (replaced net t f) b t) y) e
      ∙ across (λ w k. care (extract_of (replaced net t f) (member_of net t scope) t) (place_of net (member_of net t scope) t) y ≡ care w k y) (context-own net (member_of net t scope) t legal mem f y)

  -- the whole context
  at-whole : (P : Net → ℕ → Type 0) → scope ≡ Whole → P (extract_of net (whole net) t) t → P (net_of c.network) c.target
  at-whole P w h =
      across P (subst⁻¹ (λ (b : ℕ → Bool). P (extract_of net b t) (place_of net b t)) (ap (member_of net t) w) (subst⁻¹ (P (extract_of net (whole net) t)) (whole-place net t l) h))

  pub free-in-whole : FreeInWhole net t scope c
  free-in-whole w = at-whole (λ v k. (y : ℕ) → Decides (free v k y) (CDC net t y)) w (whole-rules net t legal l).exact

  pub harmful : Harmful net t scope c
  harmful w =
      at-whole (λ v k. (f g : Function) (y : ℕ) → care v k y ≡ true → (bit_of f y ≡ bit_of g y → ⊥) → Differ (replaced net t f) (replaced net t g)) w (whole-rules net t legal l).harm

some-none : (n : ℕ) → ◌≡◌ {A = Option ℕ} (Some n) None → ⊥
some-none n e = let z : ◌≡◌ {A = ℕ} 0 1 = cc in omega arith

-- the node of a context that was built
node_of : (net : Net) (t : ℕ) (scope : Scope) → refusal_of net t scope ≡ None → t < nodes net
node_of net t scope e =
    ⊎_elim (λ h. h)
    (λ h. absurd (some-none 8 (sym (cond-true (leb (nodes net) t) (number_of NoNode) _ (le-leb (nodes net) t h)) ∙ e)))
    (cases_lt t (nodes net))

-- a fact about each context that is built
pub built-so : (net : Net) (t : ℕ) (scope : Scope) (P : Context → Type 0) → (t < nodes net → (c : Context) → IsContext net (member_of net t scope) t c → P c) →
    (r : Result Context ContextError) → Builds net t scope r → OfContext r P
built-so net t scope P h (Ok c) b = h (node_of net t scope b.0) c b.1
built-so net t scope P h (Err e) b = tt

pub leaf-count : (net : Net) (m : ℕ → Bool) (xs : List Signal) → xs ≡ leaf_signals net m → length xs ≡ length (leaves_of net m)
leaf-count net m xs e = ap length e ∙ length-map (leaves_of net m) signal_of

-- the target's new number, and its place
pub target-new : (net : Net) (m : ℕ → Bool) (t s n k : ℕ) (new : ℕ → ℕ) → Members net m t → Numbers net m new → s ≡ net.inputs + t → n ≡ new s → k ≡ length (leaves_of net m) →
    n ≡ k + place_of net m t
target-new net m t s n k new mem is e g h =
    let T : ℕ = net.inputs + t in
    let a : new T ≡ new_of net m T = is T (mem.inside T mem.held) (or_left (m T) (is_leaf net m T) mem.held) in
    let b : n ≡ new T = g ∙ ap new e in
    omega (arith, extract-number net m t mem, (extract-is net m t).inputs)
