-- Another function at the target: the extraction changes at that node alone.
use Rattle.std.proofs.Common.{◌≡◌, ℕ, zero, suc, ◌+◌, ◌-◌, ◌<◌, Bool, cond, not, ◌&&◌, ◌||◌, eqb, ltb, leb, List, map, length, get_or, sym, refl, ap, ◌∙◌, subst, ap₂, ⊎_elim, arith}
use mathlib.Core.Path.{subst⁻¹, fun_ext}
use Rattle.std.proofs.lemmas.List.{length-set, ext_get_or}
use Rattle.std.proofs.lemmas.Bool.{cases_eq}
use Rattle.network.specs.Rows.{fanin, blank, with_function}
use Rattle.network.specs.Nets.{Net, nodes, size, row_at, replaced}
use Rattle.network.specs.declared.row.Function.{Function}
use Rattle.network.specs.declared.row.Row.{Row}
use Rattle.theory.specs.Values.{Lowers}
use Rattle.theory.proofs.Replace.{nodes-replaced, row_here, row-there, lowers-replaced}
use Rattle.context.specs.Care.{any_below, count_below}
use Rattle.context.specs.Ranks.{chosen}
use Rattle.context.specs.Levels.{is_fanin, into, outof, whole, windowed}
use Rattle.context.specs.Windows.{Members, is_leaf, leaves_of, members_of, reach_step, reach_of, is_output, is_exposed, is_root, roots_of}
use Rattle.context.specs.Extracts.{new_of, place_of, signal_of, renumber, extract_of}
use Rattle.context.proofs.Any.{any_same}
use Rattle.context.proofs.Counts.{count_same}
use Rattle.context.proofs.Ranks.{chosen-same, chosen_at, chosen-rank}
use Rattle.context.proofs.Reaches.{reach-holds, reach-only}
use Rattle.context.proofs.Made.{extract-nodes, extract-row, extract-place}

module _ (net : Net) (t : ℕ) (f : Function) (l : t < nodes net) where
  -- a row is as it was, but for its function
  row_any : (n : ℕ) → (g : Function) × (row_at (replaced net t f) n ≡ with_function (row_at net n) g)
  row_any n =
      ⊎_elim
      (λ e. (f, subst⁻¹ (λ (j : ℕ). row_at (replaced net t f) j ≡ with_function (row_at net j) f) e (row_here net t f l)))
      (λ ne. ((row_at net n).function, row-there net t f l n ne))
      (cases_eq n t)

  fanin-same : (n s : ℕ) → is_fanin (row_at (replaced net t f) n) s ≡ is_fanin (row_at net n) s
  fanin-same n s = ap (λ (r : Row). is_fanin r s) (row_any n).1

  size_same : size (replaced net t f) ≡ size net
  size_same = ap (λ n. net.inputs + n) (nodes-replaced net t f l)

  -- some node that p has reads signal s
  read_same : (p : ℕ → Bool) (s : ℕ) → any_below (nodes (replaced net t f)) (λ n. p n && is_fanin (row_at (replaced net t f) n) s) ≡ any_below (nodes net) (λ n. p n && is_fanin (row_at net n) s)
  read_same p s =
      ap (λ m. any_below m (λ n. p n && is_fanin (row_at (replaced net t f) n) s)) (nodes-replaced net t f l)
      ∙ any_same (nodes net) (λ n. p n && is_fanin (row_at (replaced net t f) n) s) (λ n. p n && is_fanin (row_at net n) s) (λ n _. ap (λ b. p n && b) (fanin-same n s))

  -- levels do not depend on functions
  pub into-replaced : (X Y : ℕ → Bool) → ((s : ℕ) → X s ≡ Y s) → (d s : ℕ) → into (replaced net t f) X d s ≡ into net Y d s
  unfolding into
  into-replaced X Y h zero s = h s
  into-replaced X Y h (suc d) s =
      let each : (s : ℕ) → into (replaced net t f) X d s ≡ into net Y d s = into-replaced X Y h d in
      ap₂ (λ a b. a || b) (each s)
      (read_same (λ n. into (replaced net t f) X d (net.inputs + n)) s
      ∙ any_same (nodes net) (λ n. into (replaced net t f) X d (net.inputs + n) && is_fanin (row_at net n) s) (λ n. into net Y d (net.inputs + n) && is_fanin (row_at net n) s)
      (λ n _. ap (λ a. a && is_fanin (row_at net n) s) (each (net.inputs + n))))

  pub outof-replaced : (X Y : ℕ → Bool) → ((s : ℕ) → X s ≡ Y s) → (d s : ℕ) → outof (replaced net t f) X d s ≡ outof net Y d s
  unfolding outof
  outof-replaced X Y h zero s = h s
  outof-replaced X Y h (suc d) s =
      let each : (s : ℕ) → outof (replaced net t f) X d s ≡ outof net Y d s = outof-replaced X Y h d in
      let old : ℕ → Bool = outof (replaced net t f) X d in
      let new : ℕ → Bool = outof net Y d in
      let reads' : (n : ℕ) → any_below (row_at (replaced net t f) n).count (λ i. old (fanin (row_at (replaced net t f) n) i)) ≡ any_below (row_at net n).count (λ i. new (fanin (row_at net n) i)) = λ n.
      ap (λ (r : Row). any_below r.count (λ i. old (fanin r i))) (row_any n).1
      ∙ any_same (row_at net n).count (λ i. old (fanin (row_at net n) i)) (λ i. new (fanin (row_at net n) i)) (λ i _. each (fanin (row_at net n) i)) in
      ap₂ (λ a b. a || b) (each s)
      (ap (λ m. any_below m (λ n. eqb (net.inputs + n) s && any_below (row_at (replaced net t f) n).count (λ i. old (fanin (row_at (replaced net t f) n) i)))) (nodes-replaced net t f l)
      ∙ any_same (nodes net) (λ n. eqb (net.inputs + n) s && any_below (row_at (replaced net t f) n).count (λ i. old (fanin (row_at (replaced net t f) n) i)))
      (λ n. eqb (net.inputs + n) s && any_below (row_at net n).count (λ i. new (fanin (row_at net n) i))) (λ n _. ap (λ a. eqb (net.inputs + n) s && a) (reads' n)))

  pub whole-replaced : (s : ℕ) → whole (replaced net t f) s ≡ whole net s
  whole-replaced s = ap (λ n. leb net.inputs s && ltb s n) size_same

  -- nor do the members of a window
  pub windowed-replaced : (T p q s : ℕ) → windowed (replaced net t f) T p q s ≡ windowed net T p q s
  windowed-replaced T p q s =
      ap₂ (λ a b. a && b) (whole-replaced s)
      (ap₂ (λ a b. a && b)
      (into-replaced (outof (replaced net t f) (eqb T) q) (outof net (eqb T) q) (outof-replaced (eqb T) (eqb T) (λ _. refl) q) (p + q) s)
      (outof-replaced (into (replaced net t f) (eqb T) p) (into net (eqb T) p) (into-replaced (eqb T) (eqb T) (λ _. refl) p) (p + q) s))

  -- members of the one network are members of the other
  pub members-replaced : (member : ℕ → Bool) (n : ℕ) → Members net member n → Members (replaced net t f) member n
  members-replaced member n mem = record { above = mem.above; inside = λ s h. let q = mem.inside s h in omega (arith, size_same); held = mem.held }

module _ (net : Net) (member : ℕ → Bool) (t : ℕ) (f : Function) (low : Lowers net) (l : t < nodes net) where
  leaf-same : (s : ℕ) → is_leaf (replaced net t f) member s ≡ is_leaf net member s
  leaf-same s = ap (λ b. not (member s) && b) (read_same net t f l (λ n. member (net.inputs + n)) s)

  pub leaves-same : leaves_of (replaced net t f) member ≡ leaves_of net member
  leaves-same = ap (λ n. chosen n (is_leaf (replaced net t f) member)) (size_same net t f l) ∙ chosen-same (size net) (is_leaf (replaced net t f) member) (is_leaf net member) (λ s _. leaf-same s)

  pub members-same : members_of (replaced net t f) member ≡ members_of net member
  members-same = ap (λ n. chosen n member) (size_same net t f l)

  pub new-same : new_of (replaced net t f) member ≡ new_of net member
  unfolding new_of
  new-same =
      fun_ext (λ s. ap₂ (λ (ls : List ℕ) c. cond (member s) (length ls + count_below s member) c) leaves-same (count_same s (is_leaf (replaced net t f) member) (is_leaf net member) (λ a _. leaf-same a)))

  pub reach-same : (T s : ℕ) → s < size net → reach_of (replaced net t f) member T s ≡ reach_of net member T s
  reach-same T =
      let r = reach-holds (replaced net t f) member T (lowers-replaced net t f l low) in
      let reach : ℕ → Bool = reach_of (replaced net t f) member T in
      reach-only net member T reach low
      (record {
        input = r.input;
        node = λ n q. r.node n (let z : n < nodes (replaced net t f) = omega (arith, nodes-replaced net t f l) in z) ∙ ap (λ (w : Row). reach_step member T (net.inputs + n) w reach) (row_any net t f l n).1;
      })

  exposed-same : (s : ℕ) → is_exposed (replaced net t f) member s ≡ is_exposed net member s
  exposed-same s = ap (λ b. is_output net s || b) (read_same net t f l (λ n. not (member (net.inputs + n))) s)

  pub roots-same : (T : ℕ) → roots_of (replaced net t f) member T ≡ roots_of net member T
  roots-same T =
      ap (λ n. chosen n (is_root (replaced net t f) member T)) (size_same net t f l)
      ∙ chosen-same (size net) (is_root (replaced net t f) member T) (is_root net member T) (λ s q. ap₂ (λ a b. a && b) (reach-same T s q) (exposed-same s))

  module _ (mem : Members net member t) where
    -- the row of member j
    row-at : (j : ℕ) → j < length (members_of net member) →
        renumber (new_of (replaced net t f) member) (row_at (replaced net t f) (get_or (members_of (replaced net t f) member) j 0 - net.inputs))
        ≡ row_at (replaced (extract_of net member t) (place_of net member t) f) j
    row-at j q =
        let win = extract_of net member t in
        let t' : ℕ = place_of net member t in
        let T = net.inputs + t in
        let s : ℕ = get_or (members_of net member) j 0 in
        let c = chosen_at (size net) member j q in
        let a = mem.above s c.1 in
        let lj : j < nodes win = omega (arith, extract-nodes net member t) in
        let new : ℕ → ℕ = new_of net member in
        let one : renumber (new_of (replaced net t f) member) (row_at (replaced net t f) (get_or (members_of (replaced net t f) member) j 0 - net.inputs)) ≡ renumber new (row_at (replaced net t f) (s - net.inputs)) =
        ap₂ (λ (n : ℕ → ℕ) (ms : List ℕ). renumber n (row_at (replaced net t f) (get_or ms j 0 - net.inputs))) new-same members-same in
        one
        ∙ ⊎_elim
        (λ (e : j ≡ t').
        let z : s ≡ T = ap (λ i. get_or (members_of net member) i 0) e ∙ chosen-rank (size net) member T (mem.inside T mem.held) mem.held in
        let z' : s - net.inputs ≡ t = omega arith in
        let r : row_at win j ≡ renumber new (row_at net t) = extract-row net member t j lj ∙ ap (λ n. renumber new (row_at net n)) z' in
        ap (λ n. renumber new (row_at (replaced net t f) n)) z' ∙ ap (renumber new) (row_here net t f l)
        ∙ ap (λ (r : Row). with_function r f) (sym r)
        ∙ subst (λ (i : ℕ). with_function (row_at win j) f ≡ row_at (replaced win i f) j) e (sym (row_here win j f lj)))
        (λ ne.
        let d : s - net.inputs ≡ t → ⊥ = λ g. ne (let z : s ≡ T = omega arith in sym c.2 ∙ ap (λ i. count_below i member) z) in
        ap (renumber new) (row-there net t f l (s - net.inputs) d) ∙ sym (extract-row net member t j lj)
        ∙ sym (row-there win t' f (extract-place net member t mem) j ne))
        (cases_eq j t')

    -- extracting and replacing can change places
    pub extract-replaced : extract_of (replaced net t f) member t ≡ replaced (extract_of net member t) (place_of net member t) f
    unfolding extract_of
    extract-replaced =
        let win = extract_of net member t in
        let t' : ℕ = place_of net member t in
        let T = net.inputs + t in
        let win' = extract_of (replaced net t f) member t in
        let a : nodes win' ≡ length (members_of net member) = extract-nodes (replaced net t f) member t ∙ ap length members-same in
        let b : nodes (replaced win t' f) ≡ length (members_of net member) = length-set win.rows t' (with_function (row_at win t') f) ∙ extract-nodes net member t in
        let rows : win'.rows ≡ (replaced win t' f).rows =
        ext_get_or blank win'.rows (replaced win t' f).rows (a ∙ sym b)
        (λ j q. extract-row (replaced net t f) member t j q ∙ row-at j (let z : j < length (members_of net member) = omega arith in z)) in
        let outs : win'.outputs ≡ win.outputs = ap₂ (λ (n : ℕ → ℕ) (rs : List ℕ). map (λ s. signal_of (n s)) rs) new-same (roots-same T) in
        λ i. record { inputs = length (leaves-same i); rows = rows i; outputs = outs i }
