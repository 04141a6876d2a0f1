-- The theorems on contexts, for the extraction.
use Rattle.std.proofs.Common.{◌≡◌, ℕ, zero, suc, ◌+◌, ◌^◌, ◌<◌, ◌≤◌, Bool, true, false, not, ◌&&◌, None, Decides, Option, sym, ap, ◌∙◌, subst, inl, inr, ⊎_elim, arith}
use Rattle.std.proofs.lemmas.Bool.{cases_Bool, cases_lt, both_ways, not-true, not_from_false, and_parts, and_from}
use Rattle.network.specs.Rows.{fanin}
use Rattle.network.specs.Nets.{Net, nodes, size, row_at, LegalNet, replaced}
use Rattle.network.specs.declared.row.Function.{Function}
use Rattle.network.specs.declared.row.Row.{Row}
use Rattle.theory.specs.Values.{value, minterm_at, target}
use Rattle.theory.specs.Same.{SameOutputs}
use Rattle.theory.proofs.Values.{lowers, holds}
use Rattle.theory.proofs.Inputs.{value_same}
use Rattle.context.specs.Care.{any_below, count_below, care, CDC, SameOnCare}
use Rattle.context.specs.Levels.{is_fanin, whole}
use Rattle.context.specs.Windows.{Members, is_leaf, reach_of}
use Rattle.context.specs.Extracts.{new_of, old_of, place_of, extract_of, leaf_values, ValuedInPlace}
use Rattle.context.specs.Claims.{ContextRules, WholeRules}
use Rattle.context.proofs.Any.{any-find, any_some}
use Rattle.context.proofs.Counts.{count_yes, count_none}
use Rattle.context.proofs.Ranks.{chosen-length}
use Rattle.context.proofs.Care.{free-exact, quiet-cdc, cdc-quiet, care-below, care-replaced, same-outputs, harm, only-safe}
use Rattle.context.proofs.Levels.{whole-exact, whole-node, whole-members, fanin-find}
use Rattle.context.proofs.Windows.{Cut, plain-in-place, turned-in-place, window-cdc, whole-care}
use Rattle.context.proofs.Extracts.{cut, old-leaf, within, forth, lowers-win, exits-win}
use Rattle.context.proofs.Made.{extract-is, extract-nodes, extract-place, extract-target}
use Rattle.context.proofs.Replaced.{extract-replaced}

-- the target is a node of the network
pub target-node : (net : Net) (member : ℕ → Bool) (t : ℕ) → Members net member t → t < nodes net
target-node net member t mem = let z = mem.inside (net.inputs + t) mem.held in omega arith

module _ (net : Net) (member : ℕ → Bool) (t : ℕ) (legal : LegalNet net) (mem : Members net member t) where
  pub extract-cut : Cut net (extract_of net member t) member (old_of net member) (new_of net member) t (place_of net member t) (λ s. reach_of net member (net.inputs + t) (old_of net member s))
  extract-cut = cut net (extract_of net member t) member t (lowers legal) legal.exit mem (extract-is net member t)

  -- leaf values by the list of leaves, at any member
  at-member : (turn : Option ℕ) (u : ℕ → Bool) → ((s : ℕ) → s < size (extract_of net member t) → value turn (extract_of net member t) (λ i. u (old_of net member i)) s ≡ u (old_of net member s)) →
      (s : ℕ) → member s ≡ true → value turn (extract_of net member t) (leaf_values net member u) (new_of net member s) ≡ u s
  at-member turn u all s h =
      let win = extract_of net member t in
      let x = extract-is net member t in
      value_same turn win (leaf_values net member u) (λ i. u (old_of net member i)) (λ i l. ap u (sym (old-leaf net win member t (lowers legal) legal.exit mem x i l))) (new_of net member s)
      ∙ all (new_of net member s) (within net win member t (lowers legal) legal.exit mem x s h) ∙ ap u (forth net win member t (lowers legal) legal.exit mem x s h)

  -- members valued in place
  pub extract-plain : (u : ℕ → Bool) → ValuedInPlace None net member u → (s : ℕ) → member s ≡ true → value None (extract_of net member t) (leaf_values net member u) (new_of net member s) ≡ u s
  extract-plain u fits =
      at-member None u (plain-in-place net (extract_of net member t) member (old_of net member) (new_of net member) t (place_of net member t) (λ s. reach_of net member (net.inputs + t) (old_of net member s)) extract-cut u fits)

  -- and with the target inverted
  pub extract-turned : (u : ℕ → Bool) → ValuedInPlace (target net t) net member u → (s : ℕ) → member s ≡ true →
      value (target (extract_of net member t) (place_of net member t)) (extract_of net member t) (leaf_values net member u) (new_of net member s) ≡ u s
  extract-turned u fits =
      at-member (target (extract_of net member t) (place_of net member t)) u
      (turned-in-place net (extract_of net member t) member (old_of net member) (new_of net member) t (place_of net member t) (λ s. reach_of net member (net.inputs + t) (old_of net member s)) extract-cut u fits)

  pub extract-values : (x : ℕ → Bool) (s : ℕ) → member s ≡ true → value None (extract_of net member t) (leaf_values net member (value None net x)) (new_of net member s) ≡ value None net x s
  extract-values x = extract-plain (value None net x) (λ n l _. (holds None net x (lowers legal)).node n l)

  -- free in the context is a complete don't-care of the network
  pub context-sound : (y : ℕ) → care (extract_of net member t) (place_of net member t) y ≡ false → CDC net t y
  context-sound = window-cdc net (extract_of net member t) member (old_of net member) (new_of net member) t (place_of net member t) (λ s. reach_of net member (net.inputs + t) (old_of net member s)) extract-cut

  -- the target has as many fanins as before
  extract-count : (row_at (extract_of net member t) (place_of net member t)).count ≡ (row_at net t).count
  extract-count = ap (λ (r : Row). r.count) (extract-target net member t mem)

  -- two functions that agree on the care minterms of the context
  pub context-safe : (f g : Function) → SameOnCare (extract_of net member t) (place_of net member t) f g → SameOutputs (replaced net t f) (replaced net t g)
  context-safe f g agrees =
      same-outputs net t (lowers legal) legal.exit (target-node net member t mem) f g (λ x.
      let y : ℕ = minterm_at net t x in
      ⊎_elim (λ c. inl (agrees y c)) (λ c. inr (context-sound y c)) (cases_Bool (care (extract_of net member t) (place_of net member t) y)))

  pub context-rules : ContextRules net t (extract_of net member t) (place_of net member t)
  context-rules =
      let win = extract_of net member t in
      let t' : ℕ = place_of net member t in
      record {
        exact = free-exact win t';
        sound = λ y h. context-sound y (not-true (care win t' y) h);
        small = λ y h. subst (λ (c : ℕ). y < 2 ^ c) extract-count (care-below win t' y h);
        safe = context-safe;
      }

  -- which minterms are care in the context does not depend on the target's function
  pub context-own : (f : Function) (y : ℕ) → care (extract_of (replaced net t f) member t) (place_of net member t) y ≡ care (extract_of net member t) (place_of net member t) y
  context-own f y =
      let win = extract_of net member t in
      let t' : ℕ = place_of net member t in
      let x = extract-is net member t in
      ap (λ (w : Net). care w t' y) (extract-replaced net member t f (lowers legal) (target-node net member t mem) mem)
      ∙ care-replaced win t' (lowers-win net win member t (lowers legal) legal.exit mem x) (exits-win net win member t (lowers legal) legal.exit mem x) (extract-place net member t mem) f y

-- a node's rank among all nodes is its number
pub whole-rank : (net : Net) (n : ℕ) → n ≤ nodes net → count_below (net.inputs + n) (whole net) ≡ n
whole-rank net zero l =
    let z : net.inputs + 0 ≡ net.inputs = omega arith in
    ap (λ s. count_below s (whole net)) z
    ∙ count_none net.inputs (whole net) (λ s q. ⊎_elim (λ h. let w = ((whole-exact net s).0 h).0 in absurd (omega arith)) (λ h. h) (cases_Bool (whole net s)))
whole-rank net (suc n) l =
    let z : net.inputs + suc n ≡ suc (net.inputs + n) = omega arith in
    ap (λ s. count_below s (whole net)) z ∙ count_yes (net.inputs + n) (whole net) (whole-node net n (omega arith)) ∙ ap suc (whole-rank net n (omega arith))

-- the leaves of the whole context
pub whole-leaf : (net : Net) (s : ℕ) → LegalNet net → Decides (is_leaf net (whole net) s) ((s < net.inputs) × (any_below (nodes net) (λ n. is_fanin (row_at net n) s) ≡ true))
whole-leaf net s legal = (
  λ h.
      let p = and_parts (not (whole net s)) (any_below (nodes net) (λ n. whole net (net.inputs + n) && is_fanin (row_at net n) s)) h in
      let w = any-find (nodes net) (λ n. whole net (net.inputs + n) && is_fanin (row_at net n) s) p.1 in
      let n : ℕ = w.0 in
      let q = and_parts (whole net (net.inputs + n)) (is_fanin (row_at net n) s) w.2 in
      let i = fanin-find (row_at net n) s q.1 in
      let o : fanin (row_at net n) i.0 < net.inputs + n = lowers legal n w.1 i.0 i.1 in
      let e = i.2 in
      let k : s < size net = let z = w.1 in omega arith in
      let out = not-true (whole net s) p.0 in
      (⊎_elim (λ g. g) (λ g. absurd (both_ways (whole net s) out ((whole-exact net s).1 (g, k)))) (cases_lt s net.inputs), any_some (nodes net) (λ n. is_fanin (row_at net n) s) n w.1 q.1),
  λ h.
      let w = any-find (nodes net) (λ n. is_fanin (row_at net n) s) h.1 in
      let out : whole net s ≡ false = ⊎_elim (λ g. let z = ((whole-exact net s).0 g).0 in let y = h.0 in absurd (omega arith)) (λ g. g) (cases_Bool (whole net s)) in
      and_from (not (whole net s)) _ (not_from_false (whole net s) out)
      (any_some (nodes net) (λ n. whole net (net.inputs + n) && is_fanin (row_at net n) s) w.0 w.1 (and_from _ _ (whole-node net w.0 w.1) w.2)),
)

pub whole-place : (net : Net) (t : ℕ) → t < nodes net → place_of net (whole net) t ≡ t
whole-place net t l = whole-rank net t (omega arith)

module _ (net : Net) (t : ℕ) (legal : LegalNet net) (l : t < nodes net) where
  whole_same : (y : ℕ) → care (extract_of net (whole net) t) t y ≡ care net t y
  whole_same y =
      let member = whole net in
      ap (λ n. care (extract_of net member t) n y) (sym (whole-place net t l))
      ∙ whole-care net (extract_of net member t) member (old_of net member) (new_of net member) t (place_of net member t) (λ s. reach_of net member (net.inputs + t) (old_of net member s))
      (extract-cut net member t legal (whole-members net t l)) (whole-node net) y

  pub whole-rules : WholeRules net t (extract_of net (whole net) t)
  whole-rules =
      let win = extract_of net (whole net) t in
      record {
        nodes = extract-nodes net (whole net) t ∙ chosen-length (size net) (whole net) ∙ whole-rank net (nodes net) (omega arith);
        exact = λ y. (λ h. quiet-cdc net t y (sym (whole_same y) ∙ not-true (care win t y) h), λ h. not_from_false (care win t y) (whole_same y ∙ cdc-quiet net t y h));
        safe = λ f g h. context-safe net (whole net) t legal (whole-members net t l) f g (λ y c. h y (ap (λ n. care win n y) (sym (whole-place net t l)) ∙ c));
        only = λ f g h y c. only-safe net t (lowers legal) legal.exit l f g h y (sym (whole_same y) ∙ c);
        harm = λ f g y h. harm net t (lowers legal) legal.exit l f g y (sym (whole_same y) ∙ h);
      }
