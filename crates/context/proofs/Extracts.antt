-- A member set with its target, extracted, is cut out of the network.
use Rattle.std.proofs.Common.{◌≡◌, ℕ, ◌+◌, ◌-◌, ◌<◌, Bool, true, false, not, ◌&&◌, ◌||◌, eqb, List, ◌++◌, length, get_or, sym, refl, ap, ◌∙◌, subst, ap₂, ⊎_elim, arith}
use mathlib.Core.Path.{subst⁻¹}
use Rattle.std.proofs.lemmas.List.{get_or_append_left, get_or-append-add, length-map, get_or-map}
use Rattle.std.proofs.lemmas.Bool.{cases_Bool, cases_eq, both_ways, not-true, not_from_false, and_parts, and_from, eq-eqb, ne_eqb, cond-true, cond-false}
use Rattle.network.specs.Rows.{fanin, no_signal}
use Rattle.network.specs.Nets.{Net, nodes, size, row_at, output_at}
use Rattle.network.specs.declared.row.Signal.{Signal}
use Rattle.theory.specs.Values.{Lowers}
use Rattle.context.specs.Care.{any_below, count_below}
use Rattle.context.specs.Levels.{is_fanin}
use Rattle.context.specs.Windows.{Members, is_leaf, leaves_of, members_of, reach_of, is_output, is_root, roots_of}
use Rattle.context.specs.Extracts.{new_of, old_of, place_of, signal_of, Renumbered, Extracted}
use Rattle.context.proofs.Any.{any_some, any-never, any_same}
use Rattle.context.proofs.Counts.{count-lt}
use Rattle.context.proofs.Ranks.{Chosen, chosen-rank, chosen_at, chosen-length}
use Rattle.context.proofs.Levels.{fanin-is}
use Rattle.context.proofs.Reaches.{reach-holds}
use Rattle.context.proofs.Care.{Exits}
use Rattle.context.proofs.Windows.{Renumbers, Window, Reached, Rooted, Cut, signal-cases}

-- a fanin of a member that is no member is a leaf
pub fanin-leaf : (net : Net) (member : ℕ → Bool) (n i : ℕ) → n < nodes net → member (net.inputs + n) ≡ true → i < (row_at net n).count → member (fanin (row_at net n) i) ≡ false →
    is_leaf net member (fanin (row_at net n) i) ≡ true
fanin-leaf net member n i l h q out =
    let s : ℕ = fanin (row_at net n) i in
    and_from (not (member s)) _ (not_from_false _ out)
    (any_some (nodes net) (λ n. member (net.inputs + n) && is_fanin (row_at net n) s) n l
    (and_from (member (net.inputs + n)) (is_fanin (row_at net n) s) h (fanin-is (row_at net n) s i q refl)))

module _ (net win : Net) (member : ℕ → Bool) (t : ℕ) (low : Lowers net) (exits : Exits net) (mem : Members net member t) (x : Extracted net member t win) where
  new-member : (s : ℕ) → member s ≡ true → new_of net member s ≡ win.inputs + count_below s member
  unfolding new_of
  new-member s h = cond-true (member s) _ _ h ∙ ap (λ k. k + count_below s member) (sym x.inputs)

  new-leaf : (s : ℕ) → member s ≡ false → new_of net member s ≡ count_below s (is_leaf net member)
  unfolding new_of
  new-leaf s h = cond-false (member s) _ _ h

  pub old-leaf : (i : ℕ) → i < win.inputs → old_of net member i ≡ get_or (leaves_of net member) i 0
  unfolding old_of
  old-leaf i l = get_or_append_left (leaves_of net member) (members_of net member) 0 i (let q : i < length (leaves_of net member) = omega (arith, x.inputs) in q)

  old-node : (j : ℕ) → old_of net member (win.inputs + j) ≡ get_or (members_of net member) j 0
  unfolding old_of
  old-node j = ap (λ k. get_or (leaves_of net member ++ members_of net member) (k + j) 0) x.inputs ∙ get_or-append-add (leaves_of net member) (members_of net member) j 0

  leaf-at : (i : ℕ) → i < win.inputs → Chosen (size net) (is_leaf net member) i (old_of net member i)
  leaf-at i l =
      subst⁻¹ (λ (s : ℕ). Chosen (size net) (is_leaf net member) i s) (old-leaf i l)
      (chosen_at (size net) (is_leaf net member) i (let q : i < length (leaves_of net member) = omega (arith, x.inputs) in q))

  node_at : (j : ℕ) → j < nodes win → Chosen (size net) member j (old_of net member (win.inputs + j))
  node_at j l =
      subst⁻¹ (λ (s : ℕ). Chosen (size net) member j s) (old-node j)
      (chosen_at (size net) member j (let q : j < length (members_of net member) = omega (arith, x.count) in q))

  leaf-no : (i : ℕ) → i < win.inputs → member (old_of net member i) ≡ false
  leaf-no i l = not-true (member (old_of net member i)) (and_parts (not (member (old_of net member i))) _ (leaf-at i l).1).0

  -- every signal of win stands for one of net
  old-size : (s : ℕ) → s < size win → old_of net member s < size net
  old-size = signal-cases (λ s. old_of net member s < size net) win.inputs (nodes win) (λ i l. (leaf-at i l).0) (λ j l. (node_at j l).0)

  pub back : (s : ℕ) → s < size win → new_of net member (old_of net member s) ≡ s
  back =
      signal-cases (λ s. new_of net member (old_of net member s) ≡ s) win.inputs (nodes win)
      (λ i l. new-leaf (old_of net member i) (leaf-no i l) ∙ (leaf-at i l).2)
      (λ j l. new-member (old_of net member (win.inputs + j)) (node_at j l).1 ∙ ap (λ r. win.inputs + r) (node_at j l).2)

  rank-within : (s : ℕ) → member s ≡ true → count_below s member < nodes win
  rank-within s h = omega (arith, count-lt (size net) s member (mem.inside s h) h, chosen-length (size net) member, x.count)

  pub within : (s : ℕ) → member s ≡ true → new_of net member s < size win
  within s h = omega (arith, new-member s h, rank-within s h)

  pub forth : (s : ℕ) → member s ≡ true → old_of net member (new_of net member s) ≡ s
  forth s h = ap (old_of net member) (new-member s h) ∙ old-node (count_below s member) ∙ chosen-rank (size net) member s (mem.inside s h) h

  leaf-within : (s : ℕ) → s < size net → is_leaf net member s ≡ true → count_below s (is_leaf net member) < win.inputs
  leaf-within s l h = omega (arith, count-lt (size net) s (is_leaf net member) l h, chosen-length (size net) (is_leaf net member), x.inputs)

  fanin-forth : (n i : ℕ) → n < nodes net → member (net.inputs + n) ≡ true → i < (row_at net n).count → old_of net member (new_of net member (fanin (row_at net n) i)) ≡ fanin (row_at net n) i
  fanin-forth n i l h k =
      let s : ℕ = fanin (row_at net n) i in
      let o = low n l i k in
      let q : s < size net = omega arith in
      ⊎_elim (λ y. forth s y)
      (λ out.
      let f = fanin-leaf net member n i l h k out in
      ap (old_of net member) (new-leaf s out) ∙ old-leaf (count_below s (is_leaf net member)) (leaf-within s q f) ∙ chosen-rank (size net) (is_leaf net member) s q f)
      (cases_Bool (member s))

  -- fanins stay lower
  fanin-lower : (n i j : ℕ) → n < nodes net → member (net.inputs + n) ≡ true → i < (row_at net n).count → count_below (net.inputs + n) member ≡ j →
      new_of net member (fanin (row_at net n) i) < win.inputs + j
  fanin-lower n i j l h k e =
      let s : ℕ = fanin (row_at net n) i in
      let o = low n l i k in
      let q : s < size net = omega arith in
      ⊎_elim
      (λ y. omega (arith, new-member s y, count-lt (net.inputs + n) s member o y))
      (λ out. omega (arith, new-leaf s out, leaf-within s q (fanin-leaf net member n i l h k out)))
      (cases_Bool (member s))

  -- node j of win is node n of net
  pub record Place (j n : ℕ) : Type 0 where
    pub node : n < nodes net
    pub at : old_of net member (win.inputs + j) ≡ net.inputs + n
    pub is : member (net.inputs + n) ≡ true
    pub rank : count_below (net.inputs + n) member ≡ j
    pub row : Renumbered (new_of net member) (row_at win j) (row_at net n)
    pub minus : old_of net member (win.inputs + j) - net.inputs ≡ n

  pub place : (j : ℕ) → j < nodes win → (n : ℕ) × Place j n
  place j l =
      let c = node_at j l in
      let a = mem.above (old_of net member (win.inputs + j)) c.1 in
      let n : ℕ = old_of net member (win.inputs + j) - net.inputs in
      let e : old_of net member (win.inputs + j) ≡ net.inputs + n = omega arith in
      let b : get_or (members_of net member) j 0 - net.inputs ≡ n = ap (λ s. s - net.inputs) (sym (old-node j)) in (
        n,
        record {
          node = let z = c.0 in omega arith;
          at = e;
          is = ap member (sym e) ∙ c.1;
          rank = ap (λ s. count_below s member) (sym e) ∙ c.2;
          row = subst (λ (n : ℕ). Renumbered (new_of net member) (row_at win j) (row_at net n)) b (x.row j l);
          minus = refl;
        },
      )

  row_back : (j : ℕ) → j < nodes win → (n : ℕ) → Place j n → Renumbers (old_of net member) (row_at win j) (row_at net n)
  row_back j l n p = record {
    count = p.row.count;
    function = p.row.function;
    fanins = λ i k. ap (old_of net member) (p.row.fanins i k) ∙ fanin-forth n i p.node p.is k;
  }

  window : Window net win member (old_of net member) (new_of net member)
  window = record {
    leaf = leaf-no;
    leafs = λ i l. (leaf-at i l).0;
    low = λ j l. mem.above _ (node_at j l).1;
    high = λ j l. (node_at j l).0;
    node = λ j l. (node_at j l).1;
    row = λ j l. let p = place j l in subst⁻¹ (λ (n : ℕ). Renumbers (old_of net member) (row_at win j) (row_at net n)) p.1.minus (row_back j l p.0 p.1);
    back = back;
    here = λ s _ h. omega (arith, new-member s h);
    within = λ s _ h. within s h;
    forth = λ s _ h. forth s h;
  }

  pub lowers-win : Lowers win
  lowers-win j l i k =
      let a = place j l in
      let n : ℕ = a.0 in
      let p = a.1 in
      let k' : i < (row_at net n).count = omega (arith, p.row.count) in
      subst⁻¹ (λ (s : ℕ). s < win.inputs + j) (p.row.fanins i k') (fanin-lower n i j p.node p.is k' p.rank)

  reach : ℕ → Bool
  reach = reach_of net member (net.inputs + t)

  -- what is reached is a member
  reach-member : (s : ℕ) → s < size net → reach s ≡ true → member s ≡ true
  unfolding reach
  reach-member =
      let r = reach-holds net member (net.inputs + t) low in
      signal-cases (λ s. reach s ≡ true → member s ≡ true) net.inputs (nodes net)
      (λ i l h. absurd (both_ways (reach i) (r.input i l) h))
      (λ n l h. (and_parts (member (net.inputs + n)) _ (sym (r.node n l) ∙ h)).0)

  pub same : old_of net member (win.inputs + place_of net member t) ≡ net.inputs + t
  same = ap (old_of net member) (sym (new-member (net.inputs + t) mem.held)) ∙ forth (net.inputs + t) mem.held

  reached : Reached win (place_of net member t) (λ s. reach (old_of net member s))
  unfolding reach
  reached = record {
    leaf = λ i l. ⊎_elim (λ h. absurd (both_ways (member (old_of net member i)) (leaf-no i l) (reach-member _ (leaf-at i l).0 h))) (λ h. h) (cases_Bool (reach (old_of net member i)));
    node = λ j l.
        let a = place j l in
        let n : ℕ = a.0 in
        let p = a.1 in
        let T = net.inputs + t in
        let t' : ℕ = place_of net member t in
        let r = reach-holds net member T low in
        let e : eqb (net.inputs + n) T ≡ eqb j t' =
        ⊎_elim
        (λ h. eq-eqb _ _ h ∙ sym (eq-eqb j t' (sym p.rank ∙ ap (λ s. count_below s member) h)))
        (λ h. ne_eqb _ _ h ∙ sym (ne_eqb j t' (λ g. h (sym p.at ∙ ap (λ i. old_of net member (win.inputs + i)) g ∙ same))))
        (cases_eq (net.inputs + n) T) in
        let c : any_below (row_at net n).count (λ i. reach (fanin (row_at net n) i)) ≡ any_below (row_at win j).count (λ i. reach (old_of net member (fanin (row_at win j) i))) =
        any_same (row_at net n).count (λ i. reach (fanin (row_at net n) i)) (λ i. reach (old_of net member (fanin (row_at win j) i))) (λ i k. ap reach (sym ((row_back j l n p).fanins i k)))
        ∙ ap (λ k. any_below k (λ i. reach (old_of net member (fanin (row_at win j) i)))) (sym p.row.count) in
        ap reach p.at ∙ r.node n p.node
        ∙ ap (λ b. b && (eqb (net.inputs + n) T || any_below (row_at net n).count (λ i. reach (fanin (row_at net n) i)))) p.is
        ∙ ap₂ (λ a b. a || b) e c;
  }

  -- output j of win is a root
  root-at : (j : ℕ) → j < length win.outputs → (s : ℕ) × (is_root net member (net.inputs + t) s ≡ true) × (member s ≡ true) × (output_at win j ≡ new_of net member s)
  unfolding reach
  root-at j l =
      let T = net.inputs + t in
      let rs : List ℕ = roots_of net member T in
      let new : ℕ → Signal = λ s. signal_of (new_of net member s) in
      let s : ℕ = get_or rs j 0 in
      let q : j < length rs = omega (arith, ap length x.outputs, length-map rs new) in
      let c = chosen_at (size net) (is_root net member T) j q in
      (s, c.1, reach-member s c.0 (and_parts (reach s) _ c.1).0, ap (λ (os : List Signal). (get_or os j no_signal).0) x.outputs ∙ ap (λ (s : Signal). s.0) (get_or-map new rs j 0 no_signal q))

  pub exits-win : Exits win
  exits-win j l = let r = root-at j l in subst⁻¹ (λ (s : ℕ). s < size win) r.3 (within r.0 r.2)

  -- a root is an output of win
  at-root : (s : ℕ) → s < size net → is_root net member (net.inputs + t) s ≡ true → is_output win (new_of net member s) ≡ true
  at-root s l h =
      let T = net.inputs + t in
      let rs : List ℕ = roots_of net member T in
      let new : ℕ → Signal = λ s. signal_of (new_of net member s) in
      let i : ℕ = count_below s (is_root net member T) in
      let q : i < length rs = omega (arith, count-lt (size net) s (is_root net member T) l h, chosen-length (size net) (is_root net member T)) in
      let e : output_at win i ≡ new_of net member s =
      ap (λ (os : List Signal). (get_or os i no_signal).0) x.outputs ∙ ap (λ (s : Signal). s.0) (get_or-map new rs i 0 no_signal q) ∙ ap (new_of net member) (chosen-rank (size net) (is_root net member T) s l h) in
      any_some (length win.outputs) (λ j. eqb (output_at win j) (new_of net member s)) i (let z : i < length win.outputs = omega (arith, ap length x.outputs, length-map rs new) in z) (eq-eqb _ _ e)

  rooted : Rooted net win member (old_of net member) (λ s. reach (old_of net member s))
  unfolding reach
  rooted s l =
      let T = net.inputs + t in
      let o : ℕ = old_of net member s in
      ⊎_elim
      (λ h. ap (is_output win) (sym (back s l)) ∙ at-root o (old-size s l) h ∙ sym h)
      (λ h.
      any-never (length win.outputs) (λ j. eqb (output_at win j) s) (λ j lj.
      let r = root-at j lj in
      ne_eqb _ _ (λ e.
      let f : r.0 ≡ o = sym (forth r.0 r.2) ∙ ap (old_of net member) (sym r.3 ∙ e) in
      both_ways (is_root net member T o) h (ap (is_root net member T) (sym f) ∙ r.1))) ∙ sym h)
      (cases_Bool (is_root net member T o))

  pub cut : Cut net win member (old_of net member) (new_of net member) t (place_of net member t) (λ s. reach_of net member (net.inputs + t) (old_of net member s))
  unfolding reach
  cut = record {
    lowers = low;
    lowers' = lowers-win;
    exits = exits;
    exits' = exits-win;
    node = let z = mem.inside (net.inputs + t) mem.held in omega arith;
    node' = rank-within (net.inputs + t) mem.held;
    same = same;
    window = window;
    reached = reached;
    rooted = rooted;
  }
