-- The signals that depend on a node, and the values of those that do not.
use Rattle.std.proofs.Common.{◌≡◌, ℕ, zero, suc, ◌+◌, ◌-◌, ◌<◌, ◌≤◌, Bool, false, ◌||◌, eqb, List, length, get_or, take, drop, set, replicate, sym, refl, ap, ◌∙◌, ⊎_elim, add-one, arith}
use Rattle.std.proofs.lemmas.List.{length-take-le, get_or-take, length-replicate, get_or-replicate, take_at, drop-drop, drop_at}
use Rattle.std.proofs.lemmas.Bool.{cases_eq, eq-eqb, ne_eqb, or_parts, or_from}
use Rattle.std.specs.List.{list_any}
use Rattle.std.proofs.lemmas.List.Folds.{list_any_more}
use Rattle.network.specs.Rows.{fanin, no_signal, Legal}
use Rattle.network.specs.declared.row.Signal.{Signal}
use Rattle.network.specs.Nets.{Net, nodes, size, row_at}
use Rattle.network.specs.declared.row.Row.{Row}
use Rattle.theory.specs.Values.{Lowers}
use Rattle.theory.proofs.Passes.{rises}
use Rattle.logic.specs.Walks.{over}
use Rattle.logic.specs.Depends.{any_marked, depend_step, dependents}
use Rattle.logic.proofs.Fronts.{Front}
use Rattle.logic.proofs.Builds as builds

-- the fanins that are used, as a list
any-listed-to : (r : Row) (marks : ℕ → Bool) (n : ℕ) → n ≤ length r.fanins → list_any (λ f. marks f.0) (take n r.fanins) ≡ any_marked r marks n
any-listed-to r marks zero h = refl
any-listed-to r marks (suc n) h =
    let below = any-listed-to r marks n (omega arith) in
    ap (λ k. list_any (λ (f : Signal). marks f.0) (take k r.fanins)) (sym (add-one n)) ∙ list_any_more (λ (f : Signal). marks f.0) r.fanins n no_signal (omega arith) ∙ ap (λ b. b || marks (fanin r n)) below

pub any-listed : (s : ℕ) (r : Row) (fs : List Signal) (marks : ℕ → Bool) → Legal s r → fs ≡ take r.count r.fanins → list_any (λ f. marks f.0) fs ≡ any_marked r marks r.count
any-listed s r fs marks legal is = ap (list_any (λ (f : Signal). marks f.0)) is ∙ any-listed-to r marks r.count (omega (arith, legal.few, legal.places))

-- they are lower signals
pub used-lower : (s : ℕ) (r : Row) (fs : List Signal) → Legal s r → fs ≡ take r.count r.fanins → (i : ℕ) → i < length fs → (get_or fs i no_signal).0 < s
used-lower s r fs legal is i h =
    let long : length fs ≡ r.count = ap length is ∙ length-take-le r.count r.fanins (omega (arith, legal.few, legal.places)) in
    let lt : i < r.count = omega arith in
    let here : (get_or fs i no_signal).0 ≡ fanin r i = ap (λ l. (get_or l i no_signal).0) is ∙ ap (λ f. f.0) (get_or-take r.count r.fanins i no_signal lt) in
    omega (arith, legal.lower i lt)

-- no marked fanin
pub any_none : (r : Row) (marks : ℕ → Bool) (n i : ℕ) → any_marked r marks n ≡ false → i < n → marks (fanin r i) ≡ false
any_none r marks zero i e h = absurd (omega arith)
any_none r marks (suc n) i e h =
    let parts = or_parts (any_marked r marks n) (marks (fanin r n)) e in
    ⊎_elim
    (λ (same : i ≡ n). ap (λ k. marks (fanin r k)) same ∙ parts.1)
    (λ ne. any_none r marks n i parts.0 (let l : i < n = omega arith in l))
    (cases_eq i n)

all_none : (r : Row) (marks : ℕ → Bool) (n : ℕ) → ((i : ℕ) → i < n → marks (fanin r i) ≡ false) → any_marked r marks n ≡ false
all_none r marks zero h = refl
all_none r marks (suc n) h = or_from (any_marked r marks n) (marks (fanin r n)) (all_none r marks n (λ i l. h i (omega arith))) (h n (omega arith))

any_same : (r : Row) (v w : ℕ → Bool) (n : ℕ) → ((i : ℕ) → i < n → v (fanin r i) ≡ w (fanin r i)) → any_marked r v n ≡ any_marked r w n
any_same r v w zero h = refl
any_same r v w (suc n) h =
    let below = any_same r v w n (λ i l. h i (omega arith)) in
    let here = h n (omega arith) in
    cc

-- nodes and their signals
pub eqb-add : (k a b : ℕ) → eqb a b ≡ eqb (k + a) (k + b)
eqb-add k a b =
    ⊎_elim
    (λ (e : a ≡ b). eq-eqb a b e ∙ sym (eq-eqb (k + a) (k + b) (ap (λ n. k + n) e)))
    (λ ne. ne_eqb a b ne ∙ sym (ne_eqb (k + a) (k + b) (λ e. ne (omega arith))))
    (cases_eq a b)

-- places behind those that are unmarked
pub behind : (k m : ℕ) (es : List Bool) → k ≤ m → drop m (over (replicate k false) es) ≡ drop m es
behind k m es h =
    let none : List Bool = replicate k false in
    let long : length none ≡ k = length-replicate k false in
    let e : m ≡ k + (m - k) = omega arith in
    ap (λ n. drop n (over none es)) e ∙ sym (drop-drop (m - k) k (over none es)) ∙ ap (drop (m - k)) (drop_at none (drop (length none) es) k long) ∙
    ap (λ n. drop (m - k) (drop n es)) long ∙ drop-drop (m - k) k es ∙ ap (λ n. drop n es) (sym e)

module _ (t : ℕ) where
  local : builds.Local (depend_step t)
  local s r v w h = ap (λ b. eqb s t || b) (any_same r v w r.count h)

  module _ (net : Net) (low : Lowers net) where
    long : length (replicate net.inputs false) ≡ net.inputs
    long = length-replicate net.inputs false

    -- one mark for each signal
    pub depends-size : length (dependents t net) ≡ size net
    unfolding dependents
    depends-size = builds.done-size (depend_step t) false local net low (replicate net.inputs false) long

    abbrev pub depends : ℕ → Bool
    depends s = get_or (dependents t net) s false

    pub depends-leaf : (i : ℕ) → i < net.inputs → depends i ≡ false
    unfolding dependents
    depends-leaf i h = builds.done-leaf (depend_step t) false local net low (replicate net.inputs false) long i false h ∙ get_or-replicate net.inputs i false false h

    pub depends-node : (n : ℕ) → n < nodes net → depends (net.inputs + n) ≡ depend_step t (net.inputs + n) (row_at net n) depends
    unfolding dependents
    depends-node = builds.done-node (depend_step t) false local net low (replicate net.inputs false) long

    -- marks in a slice
    pub marks-none : (es : List Bool) → Front (over (replicate net.inputs false) es) (net.inputs + 0) (dependents t net) (over (replicate net.inputs false) es)
    unfolding dependents
    marks-none es =
        let none : List Bool = replicate net.inputs false in
        builds.slice-none (depend_step t) false local net low none long (over none es) (take_at none (drop (length none) es) net.inputs long)

    pub marks-next : (vs es : List Bool) (n : ℕ) → n < nodes net → Front vs (net.inputs + n) (dependents t net) es → depend_step t (net.inputs + n) (row_at net n) (λ s. get_or vs s false) ≡ depends (net.inputs + n)
    unfolding dependents
    marks-next = builds.slice-next (depend_step t) false local net low (replicate net.inputs false) long

    pub marks-more : (vs es : List Bool) (n : ℕ) (v : Bool) → n < nodes net → size net ≤ length vs → Front vs (net.inputs + n) (dependents t net) es → v ≡ depends (net.inputs + n) →
        Front (set vs (net.inputs + n) v) (net.inputs + (n + 1)) (dependents t net) es
    unfolding dependents
    marks-more = builds.slice-more (depend_step t) false local net low (replicate net.inputs false) long

    -- no lower signal depends on t
    pub depends-below : (s : ℕ) → s < size net → s < t → depends s ≡ false
    depends-below =
        rises (λ s. s < t → depends s ≡ false) net.inputs (nodes net)
        (λ i l _. depends-leaf i l)
        (λ n l below h.
        let s : ℕ = net.inputs + n in
        let none : any_marked (row_at net n) depends (row_at net n).count ≡ false =
        all_none (row_at net n) depends (row_at net n).count (λ i q. let o = low n l i q in below (fanin (row_at net n) i) o (omega arith)) in
        depends-node n l ∙ or_from (eqb s t) (any_marked (row_at net n) depends (row_at net n).count) (ne_eqb s t (λ e. omega arith)) none)
