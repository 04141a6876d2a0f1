-- Gathering the signals that matter, from the last node down.
use Rattle.std.proofs.Common.{◌≡◌, ℕ, ◌+◌, ◌<◌, ◌≤◌, Bool, true, false, ◌&&◌, ◌||◌, eqb, length, sym, refl, ap, ◌∙◌, ⊎_elim, arith}
use Rattle.std.proofs.lemmas.Bool.{cases_eq, eq-eqb, eqb-true, both_ways, or_cases, or_left, or_right, and_parts, and_from}
use Rattle.network.specs.Rows.{fanin}
use Rattle.network.specs.Nets.{Net, nodes, row_at, output_at, LegalNet}
use Rattle.context.specs.Care.{any_below}
use Rattle.context.specs.Levels.{is_fanin}
use Rattle.context.specs.Windows.{is_output}
use Rattle.context.proofs.Any.{any-find, any_some}
use Rattle.window.specs.Sets.{has}
use Rattle.window.specs.declared.set.SignalSet.{SignalSet}
use Rattle.search.specs.Plans.{is_wanted}

-- the set has the target and the roots, with each of its nodes from n on the fanins, and nothing else
pub record Gathered (net : Net) (t n : ℕ) (set : SignalSet) : Type 0 where
  pub target : has set (net.inputs + t) ≡ true
  pub root : (j : ℕ) → j < length net.outputs → has set (output_at net j) ≡ true
  pub closed : (m i : ℕ) → n ≤ m → m < nodes net → has set (net.inputs + m) ≡ true → i < (row_at net m).count → has set (fanin (row_at net m) i) ≡ true
  pub least : (s : ℕ) → has set s ≡ true → is_wanted net t (has set) s ≡ true

or-more : (a b c : Bool) → (a || b) ≡ true → (a || (b || c)) ≡ true
or-more true b c h = refl
or-more false b c h = or_left b c h

module _ (net : Net) (t : ℕ) where
  -- the set of the target and the roots
  pub gathered-start : (n : ℕ) (set : SignalSet) → nodes net ≤ n → ((s : ℕ) → has set s ≡ (eqb (net.inputs + t) s || is_output net s)) → Gathered net t n set
  gathered-start n set l h = record {
    target = h (net.inputs + t) ∙ or_left _ _ (eq-eqb (net.inputs + t) (net.inputs + t) refl);
    root = λ j k.
        let o : ℕ = output_at net j in
        h o ∙ or_right (eqb (net.inputs + t) o) (is_output net o) (any_some (length net.outputs) (λ i. eqb (output_at net i) o) j k (eq-eqb o o refl));
    closed = λ m i a b _ _. absurd (omega arith);
    least = λ s y. or-more (eqb (net.inputs + t) s) (is_output net s) _ (sym (h s) ∙ y);
  }

  -- what is wanted stays wanted as the set grows
  pub wanted-more : (p q : ℕ → Bool) → ((s : ℕ) → p s ≡ true → q s ≡ true) → (s : ℕ) → is_wanted net t p s ≡ true → is_wanted net t q s ≡ true
  wanted-more p q g s h =
      let a : Bool = eqb (net.inputs + t) s in
      let b : Bool = is_output net s in
      let f : (ℕ → Bool) → ℕ → Bool = λ r n. r (net.inputs + n) && is_fanin (row_at net n) s in
      ⊎_elim
      (λ e. or_left a _ e)
      (λ e. or_right a _ (⊎_elim (λ d. or_left b _ d) (λ d.
      let w = any-find (nodes net) (f p) d in
      let k = and_parts (p (net.inputs + w.0)) (is_fanin (row_at net w.0) s) w.2 in
      or_right b _ (any_some (nodes net) (f q) w.0 w.1 (and_from (q (net.inputs + w.0)) (is_fanin (row_at net w.0) s) (g _ k.0) k.1))) (or_cases b (any_below (nodes net) (f p)) e)))
      (or_cases a (b || any_below (nodes net) (f p)) h)

  -- a fanin of node n is no node from n on
  lower-none : LegalNet net → (n m : ℕ) → n < nodes net → n ≤ m → is_fanin (row_at net n) (net.inputs + m) ≡ true → ⊥
  lower-none legal n m l k h =
      let w = any-find (row_at net n).count (λ i. eqb (fanin (row_at net n) i) (net.inputs + m)) h in
      let e = eqb-true (fanin (row_at net n) w.0) (net.inputs + m) w.2 in
      let b = (legal.row n l).lower w.0 w.1 in
      omega arith

  -- the fanins of one node more
  pub gathered-more : (n k : ℕ) (old new : SignalSet) → n + 1 ≡ k → LegalNet net → n < nodes net → has old (net.inputs + n) ≡ true → ((s : ℕ) → has new s ≡ (has old s || is_fanin (row_at net n) s)) → Gathered net t k old → Gathered net t n new
  gathered-more n k old new v legal l y h g =
      let grows : (s : ℕ) → has old s ≡ true → has new s ≡ true = λ s e. h s ∙ or_left (has old s) (is_fanin (row_at net n) s) e in
      record {
        target = grows _ g.target;
        root = λ j b. grows _ (g.root j b);
        closed = λ m i a b e u. ⊎_elim
            (λ (q : m ≡ n).
            let f : ℕ = fanin (row_at net m) i in
            let c : is_fanin (row_at net m) f ≡ true = any_some (row_at net m).count (λ j. eqb (fanin (row_at net m) j) f) i u (eq-eqb f f refl) in
            h f ∙ or_right (has old f) (is_fanin (row_at net n) f) (ap (λ j. is_fanin (row_at net j) f) (sym q) ∙ c))
            (λ (q : m ≡ n → ⊥).
            let d : k ≤ m = omega arith in
            ⊎_elim
            (λ o. grows _ (g.closed m i d b o u))
            (λ o. absurd (lower-none legal n m l a o))
            (or_cases (has old (net.inputs + m)) (is_fanin (row_at net n) (net.inputs + m)) (sym (h (net.inputs + m)) ∙ e)))
            (cases_eq m n);
        least = λ s e. ⊎_elim
            (λ o. wanted-more (has old) (has new) grows s (g.least s o))
            (λ o. or_right (eqb (net.inputs + t) s) _ (or_right (is_output net s) _
            (any_some (nodes net) (λ m. has new (net.inputs + m) && is_fanin (row_at net m) s) n l (and_from (has new (net.inputs + n)) (is_fanin (row_at net n) s) (grows _ y) o))))
            (or_cases (has old s) (is_fanin (row_at net n) s) (sym (h s) ∙ e));
      }

  -- a node that does not matter
  pub gathered-skip : (n k : ℕ) (set : SignalSet) → n + 1 ≡ k → has set (net.inputs + n) ≡ false → Gathered net t k set → Gathered net t n set
  gathered-skip n k set v y g = record {
    target = g.target;
    root = g.root;
    closed = λ m i a b e u. ⊎_elim
        (λ (q : m ≡ n). absurd (both_ways (has set (net.inputs + n)) y (ap (λ j. has set (net.inputs + j)) (sym q) ∙ e)))
        (λ (q : m ≡ n → ⊥). g.closed m i (omega arith) b e u)
        (cases_eq m n);
    least = g.least;
  }
