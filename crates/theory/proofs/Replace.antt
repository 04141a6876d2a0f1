-- What becomes of the values where one signal is inverted, or one node has another function.
use Rattle.std.proofs.Common.{◌≡◌, ℕ, ◌+◌, ◌<◌, Bool, true, false, not, ◌⊎◌, Some, None, Option, sym, refl, ap, ◌∙◌, subst, inl, inr, ⊎_elim, arith}
use mathlib.Core.Path.{subst⁻¹}
use Rattle.std.proofs.lemmas.List.{get_or-set_same, get_or-set_other, length-set}
use Rattle.std.proofs.lemmas.Bool.{cases_eq, eq-eqb, ne_eqb}
use Rattle.network.specs.Rows.{bit_of, fanin, Lower, blank, with_function}
use Rattle.network.specs.Nets.{Net, nodes, size, row_at, replaced}
use Rattle.network.specs.declared.row.Function.{Function}
use Rattle.theory.specs.Values.{reads, value_of, turns, flipped, value, minterm_at, bit_read, target, Values, Lowers}
use Rattle.theory.proofs.Passes.{rises}
use Rattle.theory.proofs.Values.{reads_same, holds, only}

-- a value is another or its inverse
pub same_or_not : (a b : Bool) → (a ≡ b) ⊎ (a ≡ not b)
same_or_not true true = inl refl
same_or_not true false = inr refl
same_or_not false true = inr refl
same_or_not false false = inl refl

-- no signal but T is inverted
abbrev pub Only : Option ℕ → ℕ → Type 0
Only turn T = (s : ℕ) → (s ≡ T → ⊥) → turns turn s ≡ false

pub only_none : (T : ℕ) → Only None T
unfolding turns
only_none T s h = refl

pub only-some : (T : ℕ) → Only (Some T) T
unfolding turns
only-some T s h = ne_eqb T s (λ e. h (sym e))

pub turns-here : (T : ℕ) → turns (Some T) T ≡ true
unfolding turns
turns-here T = eq-eqb T T refl

pub turns-none : (s : ℕ) → turns None s ≡ false
unfolding turns
turns-none s = refl

-- a set of signals that is closed under fanins and has no inverted one keeps its values
pub outside : (turn : Option ℕ) (net : Net) (x : ℕ → Bool) → Lowers net → (Q : ℕ → Type 0) →
    ((n : ℕ) → n < nodes net → Q (net.inputs + n) → turns turn (net.inputs + n) ≡ false) →
    ((n : ℕ) → n < nodes net → Q (net.inputs + n) → (i : ℕ) → i < (row_at net n).count → Q (fanin (row_at net n) i)) →
    (s : ℕ) → s < size net → Q s → value turn net x s ≡ value None net x s
outside turn net x low Q still closed =
    let p = holds turn net x low in
    let q = holds None net x low in
    rises (λ s. Q s → value turn net x s ≡ value None net x s) net.inputs (nodes net)
    (λ i l _. p.input i l ∙ sym (q.input i l))
    (λ n l below w.
    let r : reads (row_at net n) (value turn net x) ≡ reads (row_at net n) (value None net x) =
    reads_same (row_at net n) (value turn net x) (value None net x) (λ i k. below (fanin (row_at net n) i) (low n l i k) (closed n l w i k)) in
    let t : turns turn (net.inputs + n) ≡ turns None (net.inputs + n) = still n l w ∙ sym (turns-none (net.inputs + n)) in
    p.node n l ∙ ap (λ y. flipped (turns turn (net.inputs + n)) (bit_of (row_at net n).function y)) r
    ∙ ap (λ b. flipped b (value_of (row_at net n) (value None net x))) t ∙ sym (q.node n l))

-- the signals below the inverted one keep their values
pub below : (turn : Option ℕ) (net : Net) (x : ℕ → Bool) (T : ℕ) → Lowers net → Only turn T → (s : ℕ) → s < size net → s < T → value turn net x s ≡ value None net x s
below turn net x T low one =
    outside turn net x low (λ s. s < T)
    (λ n l q. one (net.inputs + n) (λ e. omega arith))
    (λ n l q i k. let o = low n l i k in omega arith)

-- what node t reads, whether it is inverted or not
pub reads_turned : (turn : Option ℕ) (net : Net) (x : ℕ → Bool) (t : ℕ) → Lowers net → t < nodes net → Only turn (net.inputs + t) →
    reads (row_at net t) (value turn net x) ≡ minterm_at net t x
reads_turned turn net x t low l one =
    reads_same (row_at net t) (value turn net x) (value None net x)
    (λ i k. let o = low t l i k in below turn net x (net.inputs + t) low one (fanin (row_at net t) i) (omega arith) o)

module _ (net : Net) (t : ℕ) (f : Function) (l : t < nodes net) where
  pub nodes-replaced : nodes (replaced net t f) ≡ nodes net
  nodes-replaced = length-set net.rows t (with_function (row_at net t) f)

  pub row_here : row_at (replaced net t f) t ≡ with_function (row_at net t) f
  row_here = get_or-set_same net.rows t (with_function (row_at net t) f) blank l

  pub row-there : (n : ℕ) → (n ≡ t → ⊥) → row_at (replaced net t f) n ≡ row_at net n
  row-there n h = get_or-set_other net.rows t n (with_function (row_at net t) f) blank h

  pub lowers-replaced : Lowers net → Lowers (replaced net t f)
  lowers-replaced low n h =
      let h' : n < nodes net = omega (arith, nodes-replaced) in
      ⊎_elim
      (λ e. subst⁻¹ (Lower (net.inputs + n)) (ap (row_at (replaced net t f)) e ∙ row_here) (subst (λ (j : ℕ). Lower (net.inputs + n) (row_at net j)) e (low n h')))
      (λ ne. subst⁻¹ (Lower (net.inputs + n)) (row-there n ne) (low n h'))
      (cases_eq n t)

  -- v agrees with the new network too, if it has the right value at node t
  pub moved : (turn turn' : Option ℕ) (x v : ℕ → Bool) → Only turn (net.inputs + t) → Only turn' (net.inputs + t) → Values turn net x v →
      v (net.inputs + t) ≡ flipped (turns turn' (net.inputs + t)) (bit_of f (reads (row_at net t) v)) → Values turn' (replaced net t f) x v
  unfolding reads
  moved turn turn' x v one one' p h =
      let k = net.inputs in
      record {
        input = p.input;
        node = λ n q.
            let q' : n < nodes net = omega (arith, nodes-replaced) in
            ⊎_elim
            (λ e. subst⁻¹ (λ (j : ℕ). v (k + j) ≡ flipped (turns turn' (k + j)) (value_of (row_at (replaced net t f) j) v)) e
            (h ∙ ap (λ r. flipped (turns turn' (k + t)) (value_of r v)) (sym row_here)))
            (λ ne.
            let ne' : k + n ≡ k + t → ⊥ = λ e. ne (omega arith) in
            p.node n q' ∙ ap (λ b. flipped b (value_of (row_at net n) v)) (one (k + n) ne' ∙ sym (one' (k + n) ne'))
            ∙ ap (λ r. flipped (turns turn' (k + n)) (value_of r v)) (sym (row-there n ne)))
            (cases_eq n t);
      }

  -- one with the old function, the other with the new: where both have the same value at node t, they have the same values
  pub trade : (turn turn' : Option ℕ) (x : ℕ → Bool) → Lowers net → Only turn (net.inputs + t) → Only turn' (net.inputs + t) →
      flipped (turns turn' (net.inputs + t)) (bit_read net t f x) ≡ flipped (turns turn (net.inputs + t)) (bit_read net t (row_at net t).function x) →
      (s : ℕ) → s < size net → value turn' (replaced net t f) x s ≡ value turn net x s
  trade turn turn' x low one one' h s q =
      let T = net.inputs + t in
      let v : ℕ → Bool = value turn net x in
      let p = holds turn net x low in
      let r = reads_turned turn net x t low l one in
      let here : v T ≡ flipped (turns turn' T) (bit_of f (reads (row_at net t) v)) =
      p.node t l ∙ ap (λ y. flipped (turns turn T) (bit_of (row_at net t).function y)) r ∙ sym h
      ∙ ap (λ y. flipped (turns turn' T) (bit_of f y)) (sym r) in
      sym (only turn' (replaced net t f) x v (lowers-replaced low) (moved turn turn' x v one one' p here) s (let z : s < size (replaced net t f) = omega (arith, nodes-replaced) in z))

  -- the functions agree at the minterm that is read
  pub same : (x : ℕ → Bool) → Lowers net → bit_read net t f x ≡ bit_read net t (row_at net t).function x →
      (s : ℕ) → s < size net → value None (replaced net t f) x s ≡ value None net x s
  same x low h = trade None None x low (only_none _) (only_none _) (ap (flipped (turns None (net.inputs + t))) h)

  -- they differ there: as if node t were inverted
  pub inverted : (x : ℕ → Bool) → Lowers net → bit_read net t f x ≡ not (bit_read net t (row_at net t).function x) →
      (s : ℕ) → s < size net → value None (replaced net t f) x s ≡ value (target net t) net x s
  inverted x low h =
      let T = net.inputs + t in
      trade (Some T) None x low (only-some _) (only_none _) (rw (turns-none T, turns-here T) h)

  -- there is no third case
  pub either : (x : ℕ → Bool) → (bit_read net t f x ≡ bit_read net t (row_at net t).function x) ⊎ (bit_read net t f x ≡ not (bit_read net t (row_at net t).function x))
  either x = same_or_not (bit_read net t f x) (bit_read net t (row_at net t).function x)

  -- the signals below node t
  pub lower : (x : ℕ → Bool) → Lowers net → (s : ℕ) → s < net.inputs + t → value None (replaced net t f) x s ≡ value None net x s
  lower x low s h =
      let T = net.inputs + t in
      let q : s < size net = omega arith in
      ⊎_elim
      (λ e. same x low e s q)
      (λ e. inverted x low e s q ∙ below (Some T) net x T low (only-some T) s q h)
      (either x)
