-- The extracted network is one that is cut out, it is legal, and no other legal network is.
use Rattle.std.proofs.Common.{◌≡◌, ℕ, zero, suc, ◌+◌, ◌-◌, ◌<◌, ◌≤◌, Bool, true, List, ◌++◌, map, length, get_or, replicate, sym, refl, ap, ◌∙◌, subst, ⊎_elim, arith}
use mathlib.Core.Path.{subst⁻¹}
use Rattle.std.specs.List.{range_with_len}
use Rattle.std.proofs.lemmas.List.{get_or_append_left, get_or-append_right, get_or-replicate, get_or_past, length-append, length-replicate, length-map, get_or-map, ext_get_or}
use Rattle.std.proofs.lemmas.List.FromFn.{length-map-range_with_len, get_or-map-range_with_len}
use Rattle.std.proofs.lemmas.Bool.{cases_Bool, cases_lt, cond-true}
use Rattle.network.specs.Limits.{max_inputs, max_fanins}
use Rattle.network.specs.Rows.{fanin, no_signal, Lower, Legal, blank}
use Rattle.network.specs.Nets.{Net, nodes, size, row_at, LegalNet}
use Rattle.network.specs.declared.row.Signal.{Signal}
use Rattle.network.specs.declared.row.Row.{Row}
use Rattle.theory.proofs.Values.{lowers}
use Rattle.context.specs.Care.{count_below}
use Rattle.context.specs.Windows.{Members, leaves_of, members_of}
use Rattle.context.specs.Extracts.{new_of, place_of, signal_of, renumber, extract_of, Renumbered, Extracted}
use Rattle.context.proofs.Counts.{count_none, count-step, count-lt}
use Rattle.context.proofs.Ranks.{chosen-length, chosen_at, chosen-rank}
use Rattle.context.proofs.Extracts.{lowers-win, exits-win}

-- the places of a row that are used
used : (ℕ → ℕ) → Row → List Signal
used new r = map (λ i. signal_of (new (fanin r i))) (range_with_len 0 r.count)

used-length : (new : ℕ → ℕ) (r : Row) → length (used new r) ≡ r.count
unfolding used
used-length new r = length-map-range_with_len (λ i. signal_of (new (fanin r i))) 0 r.count

pub renumber-used : (new : ℕ → ℕ) (r : Row) (i : ℕ) → i < r.count → fanin (renumber new r) i ≡ new (fanin r i)
unfolding used
renumber-used new r i l =
    let z : 0 + i ≡ i = omega arith in
    let q : i < length (used new r) = omega (arith, used-length new r) in
    ap (λ (s : Signal). s.0)
    (get_or_append_left (used new r) (replicate (max_fanins - r.count) no_signal) no_signal i q
    ∙ get_or-map-range_with_len (λ i. signal_of (new (fanin r i))) 0 r.count i i no_signal l z)

pub renumber-unused : (new : ℕ → ℕ) (r : Row) (i : ℕ) → r.count ≤ i → fanin (renumber new r) i ≡ 0
unfolding used
renumber-unused new r i l =
    let zs : List Signal = replicate (max_fanins - r.count) no_signal in
    ap (λ (s : Signal). s.0)
    (get_or-append_right (used new r) zs r.count i no_signal (used-length new r) l
    ∙ ⊎_elim
    (λ h. get_or-replicate (max_fanins - r.count) (i - r.count) no_signal no_signal h)
    (λ h. get_or_past zs (i - r.count) no_signal (let q : length zs ≤ i - r.count = omega (arith, length-replicate (max_fanins - r.count) no_signal) in q))
    (cases_lt (i - r.count) (max_fanins - r.count)))

pub renumber-places : (new : ℕ → ℕ) (r : Row) → r.count ≤ max_fanins → length (renumber new r).fanins ≡ max_fanins
unfolding used
renumber-places new r l =
    let zs : List Signal = replicate (max_fanins - r.count) no_signal in
    let e : length (used new r ++ zs) ≡ max_fanins = omega (arith, length-append (used new r) zs, used-length new r, length-replicate (max_fanins - r.count) no_signal) in
    e

pub renumber-is : (new : ℕ → ℕ) (r : Row) → Renumbered new (renumber new r) r
renumber-is new r = record { count = refl; function = refl; fanins = renumber-used new r }

-- a renumbered row is legal where its fanins are lower
pub renumber-legal : (s s' : ℕ) (new : ℕ → ℕ) (r : Row) → Legal s r → Lower s' (renumber new r) → Legal s' (renumber new r)
renumber-legal s s' new r o l = record {
  few = o.few;
  lower = l;
  unused = renumber-unused new r;
  clean = o.clean;
  places = renumber-places new r o.few;
  bytes = o.bytes;
  byte = o.byte;
}

same-signal : (a b : Signal) → a.0 ≡ b.0 → a ≡ b
same-signal a b e = λ i. record { 0 = e i }

same_row : (a b : Row) → a.count ≡ b.count → a.fanins ≡ b.fanins → a.function ≡ b.function → a ≡ b
same_row a b p q r = λ i. record { count = p i; fanins = q i; function = r i }

-- a legal row that is renumbered is the renumbered one
pub renumber-only : (s : ℕ) (new : ℕ → ℕ) (r' r : Row) → Legal s r' → Renumbered new r' r → r' ≡ renumber new r
renumber-only s new r' r o p =
    let c = p.count in
    let few : r.count ≤ max_fanins = let q = o.few in omega arith in
    let long : length r'.fanins ≡ length (renumber new r).fanins = o.places ∙ sym (renumber-places new r few) in
    let each : (i : ℕ) → fanin r' i ≡ fanin (renumber new r) i = λ i.
    ⊎_elim (λ l. p.fanins i l ∙ sym (renumber-used new r i l)) (λ l. o.unused i (omega arith) ∙ sym (renumber-unused new r i l)) (cases_lt i r.count) in
    same_row r' (renumber new r) c (ext_get_or no_signal r'.fanins (renumber new r).fanins long (λ i _. same-signal _ _ (each i))) p.function

module _ (net : Net) (member : ℕ → Bool) (t : ℕ) where
  row_of : ℕ → Row
  row_of s = renumber (new_of net member) (row_at net (s - net.inputs))

  pub extract-nodes : nodes (extract_of net member t) ≡ length (members_of net member)
  unfolding extract_of row_of
  extract-nodes = length-map (members_of net member) row_of

  pub extract-row : (j : ℕ) → j < nodes (extract_of net member t) → row_at (extract_of net member t) j ≡ renumber (new_of net member) (row_at net (get_or (members_of net member) j 0 - net.inputs))
  unfolding extract_of row_of
  extract-row j l = get_or-map row_of (members_of net member) j 0 blank (let q : j < length (members_of net member) = omega (arith, extract-nodes) in q)

  pub extract-is : Extracted net member t (extract_of net member t)
  unfolding extract_of
  extract-is = record {
    inputs = refl;
    count = extract-nodes;
    row = λ j l. subst⁻¹ (λ (r : Row). Renumbered (new_of net member) r (row_at net (get_or (members_of net member) j 0 - net.inputs))) (extract-row j l) (renumber-is (new_of net member) _);
    outputs = refl;
  }

  -- the target is a node of it
  pub extract-place : Members net member t → place_of net member t < nodes (extract_of net member t)
  extract-place mem =
      let T = net.inputs + t in
      omega (arith, count-lt (size net) T member (mem.inside T mem.held) mem.held, chosen-length (size net) member, extract-nodes)

  -- with its row
  pub extract-target : Members net member t → row_at (extract_of net member t) (place_of net member t) ≡ renumber (new_of net member) (row_at net t)
  extract-target mem =
      let T = net.inputs + t in
      let e : get_or (members_of net member) (place_of net member t) 0 ≡ T = chosen-rank (size net) member T (mem.inside T mem.held) mem.held in
      let z : get_or (members_of net member) (place_of net member t) 0 - net.inputs ≡ t = omega arith in
      extract-row (place_of net member t) (extract-place mem) ∙ ap (λ n. renumber (new_of net member) (row_at net n)) z

  -- and its new number
  pub extract-number : Members net member t → new_of net member (net.inputs + t) ≡ (extract_of net member t).inputs + place_of net member t
  unfolding new_of extract_of
  extract-number mem = cond-true (member (net.inputs + t)) _ _ mem.held

  -- there are at most as many members as nodes
  few : ((s : ℕ) → member s ≡ true → net.inputs ≤ s) → (n : ℕ) → count_below (net.inputs + n) member ≤ n
  few above zero =
      let z : net.inputs + 0 ≡ net.inputs = omega arith in
      let e : count_below (net.inputs + 0) member ≡ 0 =
      ap (λ s. count_below s member) z
      ∙ count_none net.inputs member (λ a l. ⊎_elim (λ h. let q = above a h in absurd (omega arith)) (λ h. h) (cases_Bool (member a))) in
      omega arith
  few above (suc n) =
      let z : net.inputs + suc n ≡ suc (net.inputs + n) = omega arith in
      let i = few above n in
      omega (arith, ap (λ s. count_below s member) z, count-step (net.inputs + n) member)

  pub extract-legal : LegalNet net → Members net member t → length (leaves_of net member) ≤ max_inputs → LegalNet (extract_of net member t)
  extract-legal legal mem leafs =
      let win = extract_of net member t in
      let low = lowers legal in
      let x = extract-is in
      record {
        few_inputs = omega (arith, x.inputs);
        few_nodes = omega (arith, legal.few_nodes, few mem.above (nodes net), chosen-length (size net) member, extract-nodes);
        row = λ j l.
            let s : ℕ = get_or (members_of net member) j 0 in
            let c = chosen_at (size net) member j (let q : j < length (members_of net member) = omega (arith, extract-nodes) in q) in
            let a = mem.above s c.1 in
            let n : ℕ = s - net.inputs in
            let q : n < nodes net = let z = c.0 in omega arith in
            let e : row_at win j ≡ renumber (new_of net member) (row_at net n) = extract-row j l in
            subst⁻¹ (Legal (win.inputs + j)) e
            (renumber-legal (net.inputs + n) (win.inputs + j) (new_of net member) (row_at net n) (legal.row n q)
            (subst (Lower (win.inputs + j)) e (lowers-win net win member t low legal.exit mem x j l)));
        exit = exits-win net win member t low legal.exit mem x;
      }

  -- a legal network that is extracted is this one
  pub extract-only : (win : Net) → LegalNet win → Extracted net member t win → win ≡ extract_of net member t
  unfolding extract_of
  extract-only win legal x =
      let rows : win.rows ≡ (extract_of net member t).rows =
      ext_get_or blank win.rows (extract_of net member t).rows (x.count ∙ sym extract-nodes)
      (λ j l. renumber-only (win.inputs + j) (new_of net member) (row_at win j) _ (legal.row j l) (x.row j l)
      ∙ sym (extract-row j (let q : j < nodes (extract_of net member t) = omega (arith, extract-nodes, x.count) in q))) in
      λ i. record { inputs = x.inputs i; rows = rows i; outputs = x.outputs i }
