-- The extracted network, one row or one root more.
use Rattle.std.proofs.Common.{◌≡◌, ℕ, ◌+◌, ◌-◌, ◌<◌, ◌≤◌, Bool, true, false, [], ◌∷◌, ◌++◌, map, length, get_or, sym, refl, ap, ◌∙◌, subst, ⊎_elim, add-one, arith}
use Rattle.std.proofs.lemmas.List.{length-map, get_or-map, map_push, nil_from_length}
use Rattle.std.proofs.lemmas.Bool.{cases_Bool, cases_lt, both_ways, and_parts, or_left, or_right}
use Rattle.network.specs.Limits.{max_nodes}
use Rattle.network.specs.Rows.{fanin, no_signal, Legal}
use Rattle.network.specs.Nets.{Net, nodes, size, row_at, output_at, LegalNet, bare, with_row, with_output}
use Rattle.network.specs.declared.row.Signal.{Signal}
use Rattle.network.specs.declared.row.Row.{Row}
use Rattle.theory.proofs.Values.{lowers}
use Rattle.context.specs.Care.{count_below}
use Rattle.context.specs.Ranks.{chosen}
use Rattle.context.specs.Windows.{is_leaf, leaves_of, members_of, reach_of, is_root}
use Rattle.context.specs.Extracts.{new_of, signal_of, renumber, extract_of}
use Rattle.context.proofs.Counts.{count-lt}
use Rattle.context.proofs.Ranks.{chosen-yes, chosen-no, chosen-length, chosen-rank}
use Rattle.context.proofs.Reaches.{reach-holds}
use Rattle.context.proofs.Extracts.{fanin-leaf}
use Rattle.context.proofs.Made.{renumber-used, renumber-unused, renumber-places, extract-nodes, extract-row, extract-is, extract-legal}
use Rattle.window.specs.Numbers.{Numbers, Ready}
use Rattle.window.specs.Parts.{rows_to, roots_to}
use Rattle.window.proofs.Fanins.{fanins-are, row_is}
use Rattle.window.proofs.Numbers.{none_below}

-- numbers that are equal at the fanins
pub renumber-same : (f g : ℕ → ℕ) (r : Row) → r.count ≤ 8 → ((i : ℕ) → i < r.count → f (fanin r i) ≡ g (fanin r i)) → renumber f r ≡ renumber g r
renumber-same f g r few h =
    row_is g r (renumber f r).fanins
    (fanins-are g r (renumber f r).fanins r.count few refl (renumber-places f r few) (λ k l. renumber-used f r k l ∙ h k l) (λ k l. renumber-unused f r k l))

module _ (net : Net) (m : ℕ → Bool) where
  row_of : ℕ → Row
  row_of s = renumber (new_of net m) (row_at net (s - net.inputs))

  pub rows-count : (n : ℕ) → nodes (rows_to net m n) ≡ count_below n m
  unfolding row_of
  rows-count n = length-map (chosen n m) row_of ∙ chosen-length n m

  pub rows_none : ((s : ℕ) → m s ≡ true → net.inputs ≤ s) → bare (length (leaves_of net m)) ≡ rows_to net m (net.inputs + 0)
  unfolding row_of
  rows_none above =
      let e : nodes (rows_to net m (net.inputs + 0)) ≡ 0 = rows-count (net.inputs + 0) ∙ none_below m net.inputs above in
      let e' : (rows_to net m (net.inputs + 0)).rows ≡ [] = nil_from_length _ e in
      λ i. record { inputs = length (leaves_of net m); rows = sym e' i; outputs = [] }

  pub rows_more : (n : ℕ) → m (net.inputs + n) ≡ true → with_row (rows_to net m (net.inputs + n)) (renumber (new_of net m) (row_at net n)) ≡ rows_to net m (net.inputs + (n + 1))
  unfolding row_of
  rows_more n h =
      let z : net.inputs + (n + 1) ≡ (net.inputs + n) + 1 = omega arith in
      let y : net.inputs + n - net.inputs ≡ n = omega arith in
      let e : map row_of (chosen (net.inputs + (n + 1)) m) ≡ map row_of (chosen (net.inputs + n) m) ++ (renumber (new_of net m) (row_at net n) ∷ []) =
      ap (λ k. map row_of (chosen k m)) (z ∙ add-one (net.inputs + n)) ∙ ap (map row_of) (chosen-yes (net.inputs + n) m h) ∙ map_push row_of (chosen (net.inputs + n) m) (net.inputs + n)
      ∙ ap (λ k. map row_of (chosen (net.inputs + n) m) ++ (renumber (new_of net m) (row_at net k) ∷ [])) y in
      λ i. record { inputs = length (leaves_of net m); rows = sym e i; outputs = [] }

  pub rows_same : (n : ℕ) → m (net.inputs + n) ≡ false → rows_to net m (net.inputs + n) ≡ rows_to net m (net.inputs + (n + 1))
  unfolding row_of
  rows_same n h =
      let z : net.inputs + (n + 1) ≡ (net.inputs + n) + 1 = omega arith in
      let e : chosen (net.inputs + (n + 1)) m ≡ chosen (net.inputs + n) m = ap (λ k. chosen k m) (z ∙ add-one (net.inputs + n)) ∙ chosen-no (net.inputs + n) m h in
      λ i. record { inputs = length (leaves_of net m); rows = map row_of (sym e i); outputs = [] }

  module _ (t : ℕ) (legal : LegalNet net) (ready : Ready net m t) where
    win-legal : LegalNet (extract_of net m t)
    win-legal = let f = ready.few in extract-legal net m t legal ready.members (omega arith)

    index : (n : ℕ) → n < nodes net → m (net.inputs + n) ≡ true → count_below (net.inputs + n) m < nodes (extract_of net m t)
    index n l h = omega (arith, count-lt (size net) (net.inputs + n) m (omega arith) h, chosen-length (size net) m, extract-nodes net m t)

    pub row_room : (n : ℕ) → n < nodes net → m (net.inputs + n) ≡ true → nodes (rows_to net m (net.inputs + n)) < max_nodes
    row_room n l h = omega (arith, index n l h, win-legal.few_nodes, rows-count (net.inputs + n))

    pub row-legal : (n : ℕ) → n < nodes net → m (net.inputs + n) ≡ true → Legal (size (rows_to net m (net.inputs + n))) (renumber (new_of net m) (row_at net n))
    row-legal n l h =
        let j : ℕ = count_below (net.inputs + n) m in
        let y : get_or (members_of net m) j 0 - net.inputs ≡ n = omega (arith, chosen-rank (size net) m (net.inputs + n) (omega arith) h) in
        let e : row_at (extract_of net m t) j ≡ renumber (new_of net m) (row_at net n) = extract-row net m t j (index n l h) ∙ ap (λ k. renumber (new_of net m) (row_at net k)) y in
        let z : (extract_of net m t).inputs + j ≡ size (rows_to net m (net.inputs + n)) = omega (arith, (extract-is net m t).inputs, rows-count (net.inputs + n)) in
        subst (λ k. Legal k (renumber (new_of net m) (row_at net n))) z (subst (Legal ((extract_of net m t).inputs + j)) e (win-legal.row j (index n l h)))

    -- the new numbers are right at a member's fanins
    pub row_same : (new : ℕ → ℕ) → Numbers net m new → (n : ℕ) → n < nodes net → m (net.inputs + n) ≡ true → renumber new (row_at net n) ≡ renumber (new_of net m) (row_at net n)
    row_same new is n l h =
        renumber-same new (new_of net m) (row_at net n) (legal.row n l).few
        (λ i k.
        let s : ℕ = fanin (row_at net n) i in
        let o = (legal.row n l).lower i k in
        is s (omega arith)
        (⊎_elim (λ y. or_left (m s) (is_leaf net m s) y) (λ y. or_right (m s) (is_leaf net m s) (fanin-leaf net m n i l h k y)) (cases_Bool (m s))))

    root-member : (s : ℕ) → s < size net → is_root net m (net.inputs + t) s ≡ true → m s ≡ true
    root-member s l h =
        let r = reach-holds net m (net.inputs + t) (lowers legal) in
        let a : reach_of net m (net.inputs + t) s ≡ true = (and_parts (reach_of net m (net.inputs + t) s) _ h).0 in
        ⊎_elim
        (λ k. absurd (both_ways (reach_of net m (net.inputs + t) s) (r.input s k) a))
        (λ k.
        let n : ℕ = s - net.inputs in
        let e : s ≡ net.inputs + n = omega arith in
        ap m e ∙ (and_parts (m (net.inputs + n)) _ (sym (r.node n (omega arith)) ∙ ap (reach_of net m (net.inputs + t)) (sym e) ∙ a)).0)
        (cases_lt s net.inputs)

    pub root-new : (new : ℕ → ℕ) → Numbers net m new → (s : ℕ) → s < size net → is_root net m (net.inputs + t) s ≡ true → new s ≡ new_of net m s
    root-new new is s l h = is s l (or_left (m s) (is_leaf net m s) (root-member s l h))

    pub root-small : (s k : ℕ) → s < size net → is_root net m (net.inputs + t) s ≡ true → new_of net m s < size (roots_to net m t k)
    unfolding extract_of
    root-small s k l h =
        let p : ℕ → Bool = is_root net m (net.inputs + t) in
        let f : ℕ → Signal = λ s. signal_of (new_of net m s) in
        let j : ℕ = count_below s p in
        let q : j < length (chosen (size net) p) = omega (arith, count-lt (size net) s p l h, chosen-length (size net) p) in
        let q' : j < length (extract_of net m t).outputs = omega (arith, length-map (chosen (size net) p) f) in
        let e : output_at (extract_of net m t) j ≡ new_of net m s = ap (λ (x : Signal). x.0) (get_or-map f (chosen (size net) p) j 0 no_signal q) ∙ ap (new_of net m) (chosen-rank (size net) p s l h) in
        let w : output_at (extract_of net m t) j < size (roots_to net m t k) = win-legal.exit j q' in
        omega arith

    pub roots-none : rows_to net m (size net) ≡ roots_to net m t 0
    unfolding chosen
    roots-none = refl

    pub roots-more : (s : ℕ) → is_root net m (net.inputs + t) s ≡ true → with_output (roots_to net m t s) (signal_of (new_of net m s)) ≡ roots_to net m t (s + 1)
    roots-more s h =
        let p : ℕ → Bool = is_root net m (net.inputs + t) in
        let f : ℕ → Signal = λ s. signal_of (new_of net m s) in
        let e : map f (chosen (s + 1) p) ≡ map f (chosen s p) ++ (f s ∷ []) = ap (λ k. map f (chosen k p)) (add-one s) ∙ ap (map f) (chosen-yes s p h) ∙ map_push f (chosen s p) s in
        λ i. record { inputs = length (leaves_of net m); rows = (rows_to net m (size net)).rows; outputs = sym e i }

    pub roots-same : (s : ℕ) → is_root net m (net.inputs + t) s ≡ false → roots_to net m t s ≡ roots_to net m t (s + 1)
    roots-same s h =
        let p : ℕ → Bool = is_root net m (net.inputs + t) in
        let f : ℕ → Signal = λ s. signal_of (new_of net m s) in
        let e : chosen (s + 1) p ≡ chosen s p = ap (λ k. chosen k p) (add-one s) ∙ chosen-no s p h in
        λ i. record { inputs = length (leaves_of net m); rows = (rows_to net m (size net)).rows; outputs = map f (sym e i) }

    pub roots-all : roots_to net m t (size net) ≡ extract_of net m t
    unfolding extract_of
    roots-all = refl
