-- What a signal leads to through members: one pass finds it, nothing else agrees with the rows, and paths say the same.
use Rattle.std.proofs.Common.{◌≡◌, ℕ, ◌+◌, ◌<◌, Bool, true, false, ◌&&◌, ◌||◌, eqb, List, map, length, Decides, sym, refl, ap, ◌∙◌, subst, ⊎_elim, arith}
use Rattle.std.specs.List.{range_with_len}
use Rattle.std.proofs.lemmas.List.FromFn.{length-map-range_with_len, get_or-map-range_with_len}
use Rattle.std.proofs.lemmas.Bool.{both_ways, and_parts, and_from, or_cases, or_left, or_right, eqb-true, eq-eqb}
use Rattle.network.specs.Rows.{fanin}
use Rattle.network.specs.Nets.{Net, nodes, size, row_at}
use Rattle.network.specs.declared.row.Row.{Row}
use Rattle.theory.specs.Values.{Lowers}
use Rattle.theory.proofs.Passes.{rises, built-low, built-row}
use Rattle.context.specs.Care.{any_below}
use Rattle.context.specs.Windows.{Leads, reach_step, reach_of, Reaches}
use Rattle.context.specs.Windows.Leads.{start, onward}
use Rattle.context.proofs.Any.{any-find, any_some, any_same}

-- a step asks only for its row's fanins
pub reach-local : (member : ℕ → Bool) (T s : ℕ) (r : Row) (v w : ℕ → Bool) → ((i : ℕ) → i < r.count → v (fanin r i) ≡ w (fanin r i)) → reach_step member T s r v ≡ reach_step member T s r w
reach-local member T s r v w h = ap (λ b. member s && (eqb s T || b)) (any_same r.count (λ i. v (fanin r i)) (λ i. w (fanin r i)) h)

pub reach-holds : (net : Net) (member : ℕ → Bool) (T : ℕ) → Lowers net → Reaches net member T (reach_of net member T)
unfolding reach_of
reach-holds net member T low =
    let k = net.inputs in
    let vs : List Bool = map (λ _. false) (range_with_len 0 k) in
    let long : k ≡ length vs = sym (length-map-range_with_len (λ _. false) 0 k) in
    record {
      input = λ i l.
          let z : 0 + i ≡ i = omega arith in
          let q : i < length vs = omega arith in
          built-low (reach_step member T) false net.rows vs i q ∙ get_or-map-range_with_len (λ _. false) 0 k i i false l z;
      node = built-row (reach_step member T) false (reach-local member T) net.rows vs k long low;
    }

pub reach-only : (net : Net) (member : ℕ → Bool) (T : ℕ) (reach : ℕ → Bool) → Lowers net → Reaches net member T reach → (s : ℕ) → s < size net → reach s ≡ reach_of net member T s
reach-only net member T reach low p =
    let q = reach-holds net member T low in
    rises (λ s. reach s ≡ reach_of net member T s) net.inputs (nodes net)
    (λ i l. p.input i l ∙ sym (q.input i l))
    (λ n l below. p.node n l ∙ reach-local member T (net.inputs + n) (row_at net n) reach (reach_of net member T) (λ i k. below (fanin (row_at net n) i) (low n l i k)) ∙ sym (q.node n l))

-- a path leads to what is reached
pub reach-path : (net : Net) (member : ℕ → Bool) (T : ℕ) → Lowers net → (s : ℕ) → s < size net → reach_of net member T s ≡ true → Leads net member T s
reach-path net member T low =
    let q = reach-holds net member T low in
    let reach : ℕ → Bool = reach_of net member T in
    rises (λ s. reach s ≡ true → Leads net member T s) net.inputs (nodes net)
    (λ i l h. absurd (both_ways (reach i) (q.input i l) h))
    (λ n l below h.
    let k : ℕ = net.inputs + n in
    let p = and_parts (member k) (eqb k T || any_below (row_at net n).count (λ i. reach (fanin (row_at net n) i))) (sym (q.node n l) ∙ h) in
    ⊎_elim
    (λ e. let g : T ≡ k = sym (eqb-true k T e) in subst (λ (s : ℕ). Leads net member T s) g (start (ap member g ∙ p.0)))
    (λ e.
    let w = any-find (row_at net n).count (λ i. reach (fanin (row_at net n) i)) e in
    let s : ℕ = fanin (row_at net n) w.0 in
    onward s k (below s (low n l w.0 w.1) w.2) (record { node = n; place = w.0; inside = l; used = w.1; head = refl; tail = refl }) p.0)
    (or_cases (eqb k T) (any_below (row_at net n).count (λ i. reach (fanin (row_at net n) i))) p.1))

-- and reaches it
module _ (net : Net) (member : ℕ → Bool) (t : ℕ) (low : Lowers net) (l : t < nodes net) where
  path-reach : {s : ℕ} → Leads net member (net.inputs + t) s → reach_of net member (net.inputs + t) s ≡ true
  path-reach (start h) =
      let T = net.inputs + t in
      (reach-holds net member T low).node t l ∙ and_from (member T) _ h (or_left (eqb T T) _ (eq-eqb T T refl))
  path-reach (onward s s' p e h) =
      let T = net.inputs + t in
      let reach : ℕ → Bool = reach_of net member T in
      let n : ℕ = e.node in
      let k : ℕ = net.inputs + n in
      let f : reach (fanin (row_at net n) e.place) ≡ true = ap reach e.tail ∙ path-reach p in
      ap reach (sym e.head) ∙ (reach-holds net member T low).node n e.inside
      ∙ and_from (member k) _ (ap member e.head ∙ h) (or_right (eqb k T) _ (any_some (row_at net n).count (λ i. reach (fanin (row_at net n) i)) e.place e.used f))

  pub reach-exact : (s : ℕ) → s < size net → Decides (reach_of net member (net.inputs + t) s) (Leads net member (net.inputs + t) s)
  reach-exact s k = (reach-path net member (net.inputs + t) low s k, path-reach)
