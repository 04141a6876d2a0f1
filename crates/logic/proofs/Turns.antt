-- The walk with a node inverted, from the walk as the network is.
use Rattle.std.proofs.Common.{◌≡◌, ℕ, ◌+◌, ◌<◌, ◌≤◌, Bool, true, false, ◌&&◌, eqb, List, ◌++◌, length, get_or, take, drop, set, Some, None, sym, ap, ◌∙◌, ⊎_elim, arith}
use Rattle.std.proofs.lemmas.List.{get_or-take, get_or-set_same, get_or-set_other, length-take-le, length-append, drop-set-lt}
use Rattle.std.proofs.lemmas.Slice.{drop-append-drop}
use Rattle.std.proofs.lemmas.Bool.{cases_Bool, cases_eq, cases_lt, and_from, and_right, or_parts, eqb-false}
use Rattle.network.specs.Rows.{fanin}
use Rattle.network.specs.Nets.{Net, nodes, size, row_at}
use Rattle.network.specs.declared.row.Row.{Row}
use Rattle.theory.specs.Values.{Lowers}
use Rattle.theory.proofs.Passes.{rises}
use Rattle.theory.proofs.Replace.{turns-here, turns-none, only-some}
use Rattle.logic.specs.Folds.{node_of, inverse_of, turned_of}
use Rattle.logic.specs.Sets.{is_in, Closed}
use Rattle.logic.specs.Walks.{over, Passed}
use Rattle.logic.specs.Depends.{any_marked, dependents}
use Rattle.logic.proofs.Folds.{node-same}
use Rattle.logic.proofs.Fronts.{over-at}
use Rattle.logic.proofs.Depends.{depends, depends-node, depends-below, any_none}
use Rattle.logic.proofs.Walks as walks

module _ {V : Type 0} (pick : V → V → V → V) (of : Bool → V) (net : Net) (low : Lowers net) (leaves : List V) (long : length leaves ≡ net.inputs) (t : ℕ) (within : t < nodes net) where
  -- the target's signal
  abbrev T : ℕ
  T = net.inputs + t

  -- the values as the network is, and with the target inverted
  abbrev as_is : ℕ → V
  as_is = walks.at pick of None net low leaves long

  abbrev inverted : ℕ → V
  inverted = walks.at pick of (Some T) net low leaves long

  as_is-node : (n : ℕ) → n < nodes net → as_is (net.inputs + n) ≡ node_of pick of (row_at net n) as_is
  as_is-node n h = walks.walked-node pick of None net low leaves long n h ∙ ap (λ b. turned_of pick of b (node_of pick of (row_at net n) as_is)) (turns-none (net.inputs + n))

  inverted-node : (n : ℕ) → n < nodes net → (net.inputs + n ≡ T → ⊥) → inverted (net.inputs + n) ≡ node_of pick of (row_at net n) inverted
  inverted-node n h ne = walks.walked-node pick of (Some T) net low leaves long n h ∙ ap (λ b. turned_of pick of b (node_of pick of (row_at net n) inverted)) (only-some T (net.inputs + n) ne)

  -- what does not depend on the target has the same value
  pub unmarked-same : (s : ℕ) → s < size net → depends T net low s ≡ false → inverted s ≡ as_is s
  unmarked-same =
      rises (λ s. depends T net low s ≡ false → inverted s ≡ as_is s) net.inputs (nodes net)
      (λ i l _. walks.walked-leaf pick of (Some T) net low leaves long i (of false) l ∙ sym (walks.walked-leaf pick of None net low leaves long i (of false) l))
      (λ n l below e.
      let s : ℕ = net.inputs + n in
      let r : Row = row_at net n in
      let parts = or_parts (eqb s T) (any_marked r (depends T net low) r.count) (sym (depends-node T net low n l) ∙ e) in
      inverted-node n l (eqb-false s T parts.0) ∙
      node-same pick of r inverted as_is (λ i q. below (fanin r i) (low n l i q) (any_none r (depends T net low) r.count i parts.1 q)) ∙ sym (as_is-node n l))

  -- nothing below the target does
  pub below-same : (s : ℕ) → s < T → inverted s ≡ as_is s
  below-same s h = let l : s < size net = omega arith in unmarked-same s l (depends-below T net low s l h)

  -- the target itself has the other value
  pub target-value : inverted T ≡ inverse_of pick of (as_is T)
  target-value =
      let r : Row = row_at net t in
      walks.walked-node pick of (Some T) net low leaves long t within ∙ ap (λ b. turned_of pick of b (node_of pick of r inverted)) (turns-here T) ∙
      ap (inverse_of pick of) (node-same pick of r inverted as_is (λ i q. below-same (fanin r i) (low t within i q)) ∙ sym (as_is-node t within))

  -- a node above it, from the values below that node
  pub above-value : (n : ℕ) (v : ℕ → V) → n < nodes net → t < n → ((i : ℕ) → i < (row_at net n).count → v (fanin (row_at net n) i) ≡ inverted (fanin (row_at net n) i)) →
      node_of pick of (row_at net n) v ≡ inverted (net.inputs + n)
  above-value n v h up same = node-same pick of (row_at net n) v inverted same ∙ sym (inverted-node n h (λ q. omega arith))

  -- what is copied: ss has the values as the network is, but for the target's, which is the other
  entered-at : (ps es ss : List V) → size net ≤ length ps → ss ≡ set (over (take (size net) ps) es) T (inverse_of pick of (get_or ps T (of false))) →
      (s : ℕ) → s < size net → (s ≡ T → ⊥) → get_or ss s (of false) ≡ get_or ps s (of false)
  entered-at ps es ss room is s h ne =
      let fs : List V = take (size net) ps in
      let long-is : length fs ≡ size net = length-take-le (size net) ps room in
      let lt : s < length fs = omega arith in
      ap (λ (l : List V). get_or l s (of false)) is ∙ get_or-set_other (over fs es) T s (inverse_of pick of (get_or ps T (of false))) (of false) ne ∙ over-at fs es s (of false) lt ∙ get_or-take (size net) ps s (of false) h

  entered-target : (ps es ss : List V) → size net ≤ length ps → ss ≡ set (over (take (size net) ps) es) T (inverse_of pick of (get_or ps T (of false))) →
      get_or ss T (of false) ≡ inverse_of pick of (get_or ps T (of false))
  entered-target ps es ss room is =
      let fs : List V = take (size net) ps in
      let long-is : length fs ≡ size net = length-take-le (size net) ps room in
      let fits : T < length (over fs es) = omega (arith, length-append fs (drop (length fs) es)) in
      ap (λ (l : List V). get_or l T (of false)) is ∙ get_or-set_same (over fs es) T (inverse_of pick of (get_or ps T (of false))) (of false) fits

  -- a pass over the wanted dependents of the target gives each wanted signal its value
  pub passed_again : (needed marks : List Bool) (ps es ss vs : List V) → Closed net needed → take (size net) marks ≡ dependents T net → size net ≤ length ps →
      ((s : ℕ) → s < size net → is_in needed s ≡ true → get_or ps s (of false) ≡ as_is s) →
      ss ≡ set (over (take (size net) ps) es) T (inverse_of pick of (get_or ps T (of false))) →
      Passed pick of None net (t + 1) (nodes net) (λ s. is_in needed s && is_in marks s) ss vs →
      (s : ℕ) → s < size net → is_in needed s ≡ true → get_or vs s (of false) ≡ inverted s
  passed_again needed marks ps es ss vs closed marked room first is f =
      let v : ℕ → V = λ s. get_or vs s (of false) in
      let under : (s : ℕ) → s < T → is_in needed s ≡ true → v s ≡ inverted s =
      λ s h e. f.below s (of false) (omega arith) ∙ entered-at ps es ss room is s (omega arith) (λ q. omega arith) ∙ first s (omega arith) e ∙ sym (below-same s h) in
      let mark : (s : ℕ) → s < size net → is_in marks s ≡ depends T net low s =
      λ s h. sym (get_or-take (size net) marks s false h) ∙ ap (λ (ms : List Bool). get_or ms s false) marked in
      let over_it : (n : ℕ) → n < nodes net → t < n → ((s : ℕ) → s < net.inputs + n → is_in needed s ≡ true → v s ≡ inverted s) → is_in needed (net.inputs + n) ≡ true → v (net.inputs + n) ≡ inverted (net.inputs + n) =
      λ n l up below e.
      let s : ℕ = net.inputs + n in
      let r : Row = row_at net n in
      let b : s < size net = omega arith in
      ⊎_elim
      (λ m.
      f.made n (of false) (omega arith) l (and_from (is_in needed s) (is_in marks s) e m) ∙ ap (λ c. turned_of pick of c (node_of pick of r v)) (turns-none s) ∙
      above-value n v l up (λ i q. below (fanin r i) (low n l i q) (closed n i l e q)))
      (λ m.
      f.others s (of false) (and_right (is_in needed s) (is_in marks s) m) ∙ entered-at ps es ss room is s b (λ q. omega arith) ∙ first s b e ∙ sym (unmarked-same s b (sym (mark s b) ∙ m)))
      (cases_Bool (is_in marks s)) in
      rises (λ s. is_in needed s ≡ true → v s ≡ inverted s) net.inputs (nodes net)
      (λ i l e. under i (omega arith) e)
      (λ n l below e.
      ⊎_elim
      (λ (low_n : n < t). under (net.inputs + n) (omega arith) e)
      (λ (high : t ≤ n).
      ⊎_elim
      (λ (same : n ≡ t).
      let there : net.inputs + n ≡ T = ap (λ k. net.inputs + k) same in
      ap v there ∙ f.below T (of false) (omega arith) ∙ entered-target ps es ss room is ∙ ap (inverse_of pick of) (first T (omega arith) (ap (is_in needed) (sym there) ∙ e)) ∙ sym target-value ∙ ap inverted (sym there))
      (λ ne. over_it n l (omega arith) below e)
      (cases_eq n t))
      (cases_lt n t))

  -- what stands behind the last signal stays
  pub entered-behind : (ps es ss : List V) → size net ≤ length ps → ss ≡ set (over (take (size net) ps) es) T (inverse_of pick of (get_or ps T (of false))) → drop (size net) ss ≡ drop (size net) es
  entered-behind ps es ss room is =
      let fs : List V = take (size net) ps in
      let x : V = inverse_of pick of (get_or ps T (of false)) in
      let long-is : length fs ≡ size net = length-take-le (size net) ps room in
      let lt : T < size net = omega arith in
      let le : size net ≤ size net = omega arith in
      ap (drop (size net)) is ∙ drop-set-lt (size net) (over fs es) T x lt ∙ ap (λ n. drop (size net) (fs ++ drop n es)) long-is ∙ drop-append-drop (size net) es fs (size net) le long-is
