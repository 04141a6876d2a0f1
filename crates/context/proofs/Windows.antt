-- A network that is cut out of another: what is free in it is a complete don't-care of the other.
use Rattle.std.proofs.Common.{◌≡◌, ℕ, ◌+◌, ◌-◌, ◌<◌, ◌≤◌, Bool, true, false, cond, not, ◌&&◌, ◌||◌, eqb, length, None, Option, sym, refl, ap, ◌∙◌, subst, ap₂, ⊎_elim, arith}
use Rattle.std.proofs.lemmas.Bool.{cases_Bool, cases_eq, cases_lt, both_ways, eq-eqb, eqb-true, eqb-false, and_parts, and_from, or_parts, or_left, or_right, or_cases, not_from_false, not_from_true, cond-true, cond-false}
use Rattle.network.specs.Rows.{bit_of, fanin}
use Rattle.network.specs.Nets.{Net, nodes, size, row_at, output_at}
use Rattle.network.specs.declared.row.Row.{Row}
use Rattle.theory.specs.Values.{number, reads, value_of, flipped, turns, value, minterm_at, target, Values, Lowers}
use Rattle.theory.proofs.Numbers.{number_same}
use Rattle.theory.proofs.Passes.{rises}
use Rattle.theory.proofs.Values.{reads_same, holds, only}
use Rattle.theory.proofs.Inputs.{value_same}
use Rattle.theory.proofs.Replace.{only-some, turns-here, turns-none, outside}
use Rattle.context.specs.Care.{any_below, care, CDC}
use Rattle.context.specs.Levels.{is_fanin}
use Rattle.context.specs.Windows.{is_output, is_exposed}
use Rattle.context.specs.Extracts.{ValuedInPlace}
use Rattle.context.proofs.Any.{any-find, any_none, any_some}
use Rattle.context.proofs.Care.{Exits, quiet-cdc, cdc-quiet}
use Rattle.context.proofs.Levels.{fanin-is}

-- r' is r with its fanins renumbered: `old` leads back
pub record Renumbers (old : ℕ → ℕ) (r' r : Row) : Type 0 where
  pub count : r'.count ≡ r.count
  pub function : r'.function ≡ r.function
  pub fanins : (i : ℕ) → i < r.count → old (fanin r' i) ≡ fanin r i

-- win has the members for nodes, and for inputs signals that are none: old s is the number in net of its signal s, and new leads back
pub record Window (net win : Net) (member : ℕ → Bool) (old new : ℕ → ℕ) : Type 0 where
  pub leaf : (i : ℕ) → i < win.inputs → member (old i) ≡ false
  pub leafs : (i : ℕ) → i < win.inputs → old i < size net
  pub low : (j : ℕ) → j < nodes win → net.inputs ≤ old (win.inputs + j)
  pub high : (j : ℕ) → j < nodes win → old (win.inputs + j) < size net
  pub node : (j : ℕ) → j < nodes win → member (old (win.inputs + j)) ≡ true
  pub row : (j : ℕ) → j < nodes win → Renumbers old (row_at win j) (row_at net (old (win.inputs + j) - net.inputs))
  pub back : (s : ℕ) → s < size win → new (old s) ≡ s
  pub here : (s : ℕ) → s < size net → member s ≡ true → win.inputs ≤ new s
  pub within : (s : ℕ) → s < size net → member s ≡ true → new s < size win
  pub forth : (s : ℕ) → s < size net → member s ≡ true → old (new s) ≡ s

-- reach has what node t' of win leads to
pub record Reached (win : Net) (t' : ℕ) (reach : ℕ → Bool) : Type 0 where
  pub leaf : (i : ℕ) → i < win.inputs → reach i ≡ false
  pub node : (j : ℕ) → j < nodes win → reach (win.inputs + j) ≡ (eqb j t' || any_below (row_at win j).count (λ i. reach (fanin (row_at win j) i)))

-- the outputs of win are what node t' leads to and is exposed
abbrev pub Rooted : Net → Net → (ℕ → Bool) → (ℕ → ℕ) → (ℕ → Bool) → Type 0
Rooted net win member old reach = (s : ℕ) → s < size win → is_output win s ≡ (reach s && is_exposed net member (old s))

-- node t' of win is node t of net
pub record Cut (net win : Net) (member : ℕ → Bool) (old new : ℕ → ℕ) (t t' : ℕ) (reach : ℕ → Bool) : Type 0 where
  pub lowers : Lowers net
  pub lowers' : Lowers win
  pub exits : Exits net
  pub exits' : Exits win
  pub node : t < nodes net
  pub node' : t' < nodes win
  pub same : old (win.inputs + t') ≡ net.inputs + t
  pub window : Window net win member old new
  pub reached : Reached win t' reach
  pub rooted : Rooted net win member old reach

-- a row and its renumbered row read the same, each at its own values
pub reads-across : (old : ℕ → ℕ) (r' r : Row) (w u : ℕ → Bool) → Renumbers old r' r → ((i : ℕ) → i < r.count → w (fanin r' i) ≡ u (old (fanin r' i))) → reads r' w ≡ reads r u
unfolding reads
reads-across old r' r w u p h =
    ap (number (λ i. w (fanin r' i))) p.count
    ∙ number_same (λ i. w (fanin r' i)) (λ i. u (fanin r i)) r.count (λ i l. h i l ∙ ap u (p.fanins i l))

-- inputs and nodes
pub signal-cases : (P : ℕ → Type 0) (k n : ℕ) → ((i : ℕ) → i < k → P i) → ((j : ℕ) → j < n → P (k + j)) → (s : ℕ) → s < k + n → P s
signal-cases P k n a b = rises P k n a (λ j l _. b j l)

pub output-find : (net : Net) (s : ℕ) → is_output net s ≡ true → (j : ℕ) × (j < length net.outputs) × (output_at net j ≡ s)
output-find net s h = let w = any-find (length net.outputs) (λ j. eqb (output_at net j) s) h in (w.0, w.1, eqb-true _ _ w.2)

pub output-at : (net : Net) (j : ℕ) → j < length net.outputs → is_output net (output_at net j) ≡ true
output-at net j l = any_some (length net.outputs) (λ i. eqb (output_at net i) (output_at net j)) j l (eq-eqb _ _ refl)

module _ (net win : Net) (member : ℕ → Bool) (old new : ℕ → ℕ) (t t' : ℕ) (reach : ℕ → Bool) (k : Cut net win member old new t t' reach) where
  -- the node of net that node j of win is
  at : (j : ℕ) → j < nodes win → (n : ℕ) × (n < nodes net) × (old (win.inputs + j) ≡ net.inputs + n) × Renumbers old (row_at win j) (row_at net n)
  at j l =
      let a = k.window.low j l in
      let b = k.window.high j l in
      (old (win.inputs + j) - net.inputs, omega arith, omega arith, k.window.row j l)

  -- the node of win that member n is
  place : (n : ℕ) → n < nodes net → member (net.inputs + n) ≡ true →
      (j : ℕ) × (j < nodes win) × (new (net.inputs + n) ≡ win.inputs + j) × (old (win.inputs + j) ≡ net.inputs + n) × Renumbers old (row_at win j) (row_at net n)
  place n l h =
      let s : ℕ = net.inputs + n in
      let q : s < size net = omega arith in
      let a = k.window.here s q h in
      let b = k.window.within s q h in
      let j : ℕ = new s - win.inputs in
      let e : new s ≡ win.inputs + j = omega arith in
      let lj : j < nodes win = omega arith in
      let o : old (win.inputs + j) ≡ s = ap old (sym e) ∙ k.window.forth s q h in
      let z : old (win.inputs + j) - net.inputs ≡ n = omega arith in
      (j, lj, e, o, subst (λ (m : ℕ). Renumbers old (row_at win j) (row_at net m)) z (k.window.row j lj))

  -- no input is a member
  input-out : (i : ℕ) → i < net.inputs → member i ≡ false
  input-out i l =
      ⊎_elim
      (λ h.
      let q : i < size net = omega arith in
      let a = k.window.here i q h in
      let b = k.window.within i q h in
      let j : ℕ = new i - win.inputs in
      let lj : j < nodes win = omega arith in
      let e : new i ≡ win.inputs + j = omega arith in
      let o : old (win.inputs + j) ≡ i = ap old (sym e) ∙ k.window.forth i q h in
      let z = k.window.low j lj in
      absurd (omega arith))
      (λ h. h) (cases_Bool (member i))

  -- members valued in place, from any values of the leaves, have the values of win
  pub inside : (turn turn' : Option ℕ) (u : ℕ → Bool) → ValuedInPlace turn net member u →
      ((j : ℕ) → j < nodes win → turns turn' (win.inputs + j) ≡ turns turn (old (win.inputs + j))) →
      (s : ℕ) → s < size win → value turn' win (λ i. u (old i)) s ≡ u (old s)
  inside turn turn' u fits turned s l =
      let m = win.inputs in
      sym (only turn' win (λ i. u (old i)) (λ i. u (old i)) k.lowers'
      (record {
        input = λ i _. refl;
        node = λ j l.
            let a = at j l in
            let n : ℕ = a.0 in
            let e : old (m + j) ≡ net.inputs + n = a.2 in
            let mem : member (net.inputs + n) ≡ true = subst (λ (s : ℕ). member s ≡ true) e (k.window.node j l) in
            let r : reads (row_at win j) (λ i. u (old i)) ≡ reads (row_at net n) u = reads-across old (row_at win j) (row_at net n) (λ i. u (old i)) u a.3 (λ i _. refl) in
            let b : turns turn (net.inputs + n) ≡ turns turn' (m + j) = ap (turns turn) (sym e) ∙ sym (turned j l) in
            let f : (row_at net n).function ≡ (row_at win j).function = sym a.3.function in
            ap u e ∙ fits n a.1 mem ∙ ap₂ (λ b g. flipped b (bit_of g (reads (row_at net n) u))) b f
            ∙ ap (λ y. flipped (turns turn' (m + j)) (bit_of (row_at win j).function y)) (sym r);
      }) s l)

  pub plain-in-place : (u : ℕ → Bool) → ValuedInPlace None net member u → (s : ℕ) → s < size win → value None win (λ i. u (old i)) s ≡ u (old s)
  plain-in-place u fits = inside None None u fits (λ j _. turns-none _ ∙ sym (turns-none _))

  -- the values of net
  pub plain : (x : ℕ → Bool) (s : ℕ) → s < size win → value None win (λ i. value None net x (old i)) s ≡ value None net x (old s)
  plain x = plain-in-place (value None net x) (λ n l _. (holds None net x k.lowers).node n l)

  row-t : Renumbers old (row_at win t') (row_at net t)
  row-t =
      let e = k.same in
      let z : old (win.inputs + t') - net.inputs ≡ t = omega arith in
      subst (λ (m : ℕ). Renumbers old (row_at win t') (row_at net m)) z (k.window.row t' k.node')

  -- both nodes read the same
  read-t : (x : ℕ → Bool) → minterm_at win t' (λ i. value None net x (old i)) ≡ minterm_at net t x
  read-t x =
      reads-across old (row_at win t') (row_at net t) (value None win (λ i. value None net x (old i))) (value None net x) row-t
      (λ i l. let c = row-t.count in let o = k.lowers' t' k.node' i (omega arith) in let q = k.node' in plain x (fanin (row_at win t') i) (omega arith))

  member-t : member (net.inputs + t) ≡ true
  member-t = ap member (sym k.same) ∙ k.window.node t' k.node'

  -- the same signal is inverted
  turn-place : (j n : ℕ) → j < nodes win → old (win.inputs + j) ≡ net.inputs + n → turns (target win t') (win.inputs + j) ≡ turns (target net t) (net.inputs + n)
  turn-place j n l o =
      let m = win.inputs in
      ⊎_elim
      (λ e.
      let e' : m + j ≡ m + t' = ap (λ i. m + i) e in
      let g : net.inputs + n ≡ net.inputs + t = sym o ∙ ap old e' ∙ k.same in
      ap (turns (target win t')) e' ∙ turns-here (m + t') ∙ sym (ap (turns (target net t)) g ∙ turns-here (net.inputs + t)))
      (λ ne.
      let a : turns (target win t') (m + j) ≡ false = only-some (m + t') (m + j) (λ e. ne (omega arith)) in
      let c : turns (target net t) (net.inputs + n) ≡ false =
      only-some (net.inputs + t) (net.inputs + n) (λ e.
      let q = k.node' in
      let g : m + j ≡ m + t' = sym (k.window.back (m + j) (omega arith)) ∙ ap new (o ∙ e ∙ sym k.same) ∙ k.window.back (m + t') (omega arith) in
      ne (omega arith)) in
      a ∙ sym c)
      (cases_eq j t')

  turned : (j : ℕ) → j < nodes win → turns (target win t') (win.inputs + j) ≡ turns (target net t) (old (win.inputs + j))
  turned j l = let a = at j l in turn-place j a.0 l a.2 ∙ ap (turns (target net t)) (sym a.2)

  -- members valued in place with the target inverted
  pub turned-in-place : (u : ℕ → Bool) → ValuedInPlace (target net t) net member u → (s : ℕ) → s < size win → value (target win t') win (λ i. u (old i)) s ≡ u (old s)
  turned-in-place u fits = inside (target net t) (target win t') u fits turned

  -- a fanin of a node that is no member is exposed
  fanin-exposed : (n i : ℕ) → n < nodes net → i < (row_at net n).count → member (net.inputs + n) ≡ false → is_exposed net member (fanin (row_at net n) i) ≡ true
  fanin-exposed n i l q h =
      let s : ℕ = fanin (row_at net n) i in
      or_right (is_output net s) _
      (any_some (nodes net) (λ n. not (member (net.inputs + n)) && is_fanin (row_at net n) s) n l
      (and_from (not (member (net.inputs + n))) (is_fanin (row_at net n) s) (not_from_false _ h) (fanin-is (row_at net n) s i q refl)))

  -- what node t' does not lead to keeps its value
  unreached : (x' : ℕ → Bool) (s : ℕ) → s < size win → reach s ≡ false → value (target win t') win x' s ≡ value None win x' s
  unreached x' =
      outside (target win t') win x' k.lowers' (λ s. reach s ≡ false)
      (λ j l h.
      let p = or_parts (eqb j t') (any_below (row_at win j).count (λ i. reach (fanin (row_at win j) i))) (sym (k.reached.node j l) ∙ h) in
      only-some (win.inputs + t') (win.inputs + j) (λ e. eqb-false j t' p.0 (omega arith)))
      (λ j l h i q.
      let p = or_parts (eqb j t') (any_below (row_at win j).count (λ i. reach (fanin (row_at win j) i))) (sym (k.reached.node j l) ∙ h) in
      any_none (row_at win j).count (λ i. reach (fanin (row_at win j) i)) p.1 i q)

  module _ (y : ℕ) (quiet : care win t' y ≡ false) (x : ℕ → Bool) (read : minterm_at net t x ≡ y) where
    x' : ℕ → Bool
    x' i = value None net x (old i)

    -- an exposed member has in win, with the target inverted, its plain value
    steady : (s : ℕ) → s < size net → member s ≡ true → is_exposed net member s ≡ true → value (target win t') win x' (new s) ≡ value None net x s
    unfolding x'
    steady s l h e =
        let q : new s < size win = k.window.within s l h in
        let o : old (new s) ≡ s = k.window.forth s l h in
        let tail : value None win x' (new s) ≡ value None net x s = plain x (new s) q ∙ ap (value None net x) o in
        ⊎_elim
        (λ r.
        let root : is_output win (new s) ≡ true = k.rooted (new s) q ∙ and_from (reach (new s)) (is_exposed net member (old (new s))) r (ap (is_exposed net member) o ∙ e) in
        let f = output-find win (new s) root in
        let c = quiet-cdc win t' y quiet x' (read-t x ∙ read) f.0 f.1 in
        let c' : value None win x' (new s) ≡ value (target win t') win x' (new s) = subst (λ (s : ℕ). value None win x' s ≡ value (target win t') win x' s) f.2 c in
        sym c' ∙ tail)
        (λ r. unreached x' (new s) q r ∙ tail)
        (cases_Bool (reach (new s)))

    -- the values of net with the target inverted: members have those of win, the others keep theirs
    u : ℕ → Bool
    u s = cond (member s) (value (target win t') win x' (new s)) (value None net x s)

    u-in : (s : ℕ) → member s ≡ true → u s ≡ value (target win t') win x' (new s)
    unfolding u
    u-in s h = cond-true (member s) _ _ h

    u-out : (s : ℕ) → member s ≡ false → u s ≡ value None net x s
    unfolding u
    u-out s h = cond-false (member s) _ _ h

    u-exposed : (s : ℕ) → s < size net → is_exposed net member s ≡ true → u s ≡ value None net x s
    u-exposed s l e = ⊎_elim (λ h. u-in s h ∙ steady s l h e) (λ h. u-out s h) (cases_Bool (member s))

    u-old : (s : ℕ) → s < size win → value (target win t') win x' s ≡ u (old s)
    unfolding x'
    u-old =
        signal-cases (λ s. value (target win t') win x' s ≡ u (old s)) win.inputs (nodes win)
        (λ i l. (holds (target win t') win x' k.lowers').input i l ∙ sym (u-out (old i) (k.window.leaf i l)))
        (λ j l. let q : win.inputs + j < size win = omega arith in
        sym (u-in (old (win.inputs + j)) (k.window.node j l) ∙ ap (value (target win t') win x') (k.window.back (win.inputs + j) q)))

    u-member : (n : ℕ) → n < nodes net → member (net.inputs + n) ≡ true → u (net.inputs + n) ≡ flipped (turns (target net t) (net.inputs + n)) (value_of (row_at net n) u)
    u-member n l h =
        let a = place n l h in
        let j : ℕ = a.0 in
        let r : reads (row_at win j) (value (target win t') win x') ≡ reads (row_at net n) u =
        reads-across old (row_at win j) (row_at net n) (value (target win t') win x') u a.4
        (λ i q. let c = a.4.count in let o = k.lowers' j a.1 i (omega arith) in u-old (fanin (row_at win j) i) (omega arith)) in
        let b : turns (target win t') (win.inputs + j) ≡ turns (target net t) (net.inputs + n) = turn-place j n a.1 a.3 in
        u-in (net.inputs + n) h ∙ ap (value (target win t') win x') a.2 ∙ (holds (target win t') win x' k.lowers').node j a.1
        ∙ ap₂ (λ b g. flipped b (bit_of g (reads (row_at win j) (value (target win t') win x')))) b a.4.function
        ∙ ap (λ y. flipped (turns (target net t) (net.inputs + n)) (bit_of (row_at net n).function y)) r

    u-other : (n : ℕ) → n < nodes net → member (net.inputs + n) ≡ false → u (net.inputs + n) ≡ flipped (turns (target net t) (net.inputs + n)) (value_of (row_at net n) u)
    u-other n l h =
        let r : reads (row_at net n) (value None net x) ≡ reads (row_at net n) u =
        reads_same (row_at net n) (value None net x) u
        (λ i q. let o = k.lowers n l i q in sym (u-exposed (fanin (row_at net n) i) (omega arith) (fanin-exposed n i l q h))) in
        let b : turns None (net.inputs + n) ≡ turns (target net t) (net.inputs + n) =
        turns-none _ ∙ sym (only-some (net.inputs + t) (net.inputs + n) (λ e. both_ways (member (net.inputs + n)) h (ap member e ∙ member-t))) in
        u-out (net.inputs + n) h ∙ (holds None net x k.lowers).node n l
        ∙ ap₂ (λ b y. flipped b (bit_of (row_at net n).function y)) b r

    u-values : Values (target net t) net x u
    u-values = record {
      input = λ i l. u-out i (input-out i l) ∙ (holds None net x k.lowers).input i l;
      node = λ n l. ⊎_elim (λ h. u-member n l h) (λ h. u-other n l h) (cases_Bool (member (net.inputs + n)));
    }

  -- free in win is a complete don't-care of net
  pub window-cdc : (y : ℕ) → care win t' y ≡ false → CDC net t y
  window-cdc y quiet x read j l =
      let o : ℕ = output_at net j in
      sym (sym (only (target net t) net x (u y quiet x read) k.lowers (u-values y quiet x read) o (k.exits j l))
      ∙ u-exposed y quiet x read o (k.exits j l) (or_left (is_output net o) _ (output-at net j l)))

  -- so what matters in net matters in win
  pub care-window : (y : ℕ) → care net t y ≡ true → care win t' y ≡ true
  care-window y h =
      ⊎_elim (λ e. e) (λ e. absurd (both_ways (care net t y) (cdc-quiet net t y (window-cdc y e)) h)) (cases_Bool (care win t' y))

  -- all nodes are members
  module _ (all : (n : ℕ) → n < nodes net → member (net.inputs + n) ≡ true) where
    leaf-input : (i : ℕ) → i < win.inputs → old i < net.inputs
    leaf-input i l =
        ⊎_elim (λ h. h)
        (λ h.
        let q = k.window.leafs i l in
        let n : ℕ = old i - net.inputs in
        let e : net.inputs + n ≡ old i = omega arith in
        absurd (both_ways (member (old i)) (k.window.leaf i l) (ap member (sym e) ∙ all n (omega arith))))
        (cases_lt (old i) net.inputs)

    module _ (x'' : ℕ → Bool) where
      -- any leaf values come from inputs
      spread : ℕ → Bool
      spread s = x'' (new s)

      leaf-value : (turn : Option ℕ) (i : ℕ) → i < win.inputs → value turn net spread (old i) ≡ x'' i
      unfolding spread
      leaf-value turn i l = (holds turn net spread k.lowers).input (old i) (leaf-input i l) ∙ ap x'' (k.window.back i (omega arith))

      both : (turn turn' : Option ℕ) → ((j : ℕ) → j < nodes win → turns turn' (win.inputs + j) ≡ turns turn (old (win.inputs + j))) →
          (s : ℕ) → s < size win → value turn' win x'' s ≡ value turn net spread (old s)
      both turn turn' turned' s l =
          sym (value_same turn' win (λ i. value turn net spread (old i)) x'' (leaf-value turn) s)
          ∙ inside turn turn' (value turn net spread) (λ n l _. (holds turn net spread k.lowers).node n l) turned' s l

      both-plain : (s : ℕ) → s < size win → value None win x'' s ≡ value None net spread (old s)
      both-plain = both None None (λ j _. turns-none _ ∙ sym (turns-none _))

      both-turned : (s : ℕ) → s < size win → value (target win t') win x'' s ≡ value (target net t) net spread (old s)
      both-turned = both (target net t) (target win t') turned

      reads-spread : minterm_at win t' x'' ≡ minterm_at net t spread
      reads-spread =
          reads-across old (row_at win t') (row_at net t) (value None win x'') (value None net spread) row-t
          (λ i l. let c = row-t.count in let o = k.lowers' t' k.node' i (omega arith) in let q = k.node' in both-plain (fanin (row_at win t') i) (omega arith))

    root-output : (s : ℕ) → is_exposed net member s ≡ true → is_output net s ≡ true
    root-output s h =
        ⊎_elim (λ e. e)
        (λ e.
        let f = any-find (nodes net) (λ n. not (member (net.inputs + n)) && is_fanin (row_at net n) s) e in
        let p = and_parts (not (member (net.inputs + f.0))) (is_fanin (row_at net f.0) s) f.2 in
        absurd (both_ways (not (member (net.inputs + f.0))) (not_from_true _ (all f.0 f.1)) p.0))
        (or_cases (is_output net s) _ h)

    -- a complete don't-care of net is free in win
    whole-free : (y : ℕ) → CDC net t y → care win t' y ≡ false
    whole-free y cdc =
        cdc-quiet win t' y (λ x'' r j l.
        let o : ℕ = output_at win j in
        let lo : o < size win = k.exits' j l in
        let e : is_exposed net member (old o) ≡ true = (and_parts (reach o) (is_exposed net member (old o)) (sym (k.rooted o lo) ∙ output-at win j l)).1 in
        let f = output-find net (old o) (root-output (old o) e) in
        let c = cdc (spread x'') (sym (reads-spread x'') ∙ r) f.0 f.1 in
        both-plain x'' o lo ∙ subst (λ (s : ℕ). value None net (spread x'') s ≡ value (target net t) net (spread x'') s) f.2 c ∙ sym (both-turned x'' o lo))

    pub whole-care : (y : ℕ) → care win t' y ≡ care net t y
    whole-care y =
        ⊎_elim
        (λ h. care-window y h ∙ sym h)
        (λ h. whole-free y (quiet-cdc net t y h) ∙ sym h)
        (cases_Bool (care net t y))
