-- Members are numbered one after another.
use Rattle.std.proofs.Common.{◌≡◌, ℕ, ◌+◌, ◌<◌, ◌≤◌, Bool, true, false, cond, eqb, List, length, get_or, sym, ap, ◌∙◌, ⊎_elim, add-one, arith}
use Rattle.std.proofs.lemmas.List.{length-map, get_or-map}
use Rattle.std.proofs.lemmas.Bool.{cases_Bool, cond-true, cond-false, eq-eqb, ne_eqb, both_ways, or_cases}
use Rattle.network.specs.Rows.{no_signal}
use Rattle.network.specs.Nets.{Net, size}
use Rattle.network.specs.declared.row.Signal.{Signal}
use Rattle.context.specs.Care.{count_below}
use Rattle.context.specs.Windows.{is_leaf, leaves_of}
use Rattle.context.specs.Extracts.{signal_of, new_of}
use Rattle.context.proofs.Counts.{count_yes, count_no, count_none, count-lt}
use Rattle.context.proofs.Ranks.{chosen_at, chosen-rank, chosen-length, chosen-ascending}
use Rattle.window.specs.Entries.{leaf_signals}
use Rattle.window.specs.Numbers.{Numbers}

pub none_below : (m : ℕ → Bool) (n : ℕ) → ((s : ℕ) → m s ≡ true → n ≤ s) → count_below (n + 0) m ≡ 0
none_below m n above =
    let z : n + 0 ≡ n = omega arith in
    ap (λ k. count_below k m) z ∙ count_none n m (λ s l. ⊎_elim (λ h. let q = above s h in absurd (omega arith)) (λ h. h) (cases_Bool (m s)))

pub next-in : (m : ℕ → Bool) (i n : ℕ) → m (i + n) ≡ true → count_below (i + (n + 1)) m ≡ count_below (i + n) m + 1
next-in m i n h =
    let z : i + (n + 1) ≡ (i + n) + 1 = omega arith in
    ap (λ k. count_below k m) (z ∙ add-one (i + n)) ∙ count_yes (i + n) m h ∙ sym (add-one (count_below (i + n) m))

pub next-out : (m : ℕ → Bool) (i n : ℕ) → m (i + n) ≡ false → count_below (i + (n + 1)) m ≡ count_below (i + n) m
next-out m i n h =
    let z : i + (n + 1) ≡ (i + n) + 1 = omega arith in
    ap (λ k. count_below k m) (z ∙ add-one (i + n)) ∙ count_no (i + n) m h

-- after one number was put
pub put-here : (a s new old : ℕ) → a ≡ s → cond (eqb a s) new old ≡ new
put-here a s new old e = cond-true (eqb a s) new old (eq-eqb a s e)

pub put-there : (a s new old : ℕ) → (a ≡ s → ⊥) → cond (eqb a s) new old ≡ old
put-there a s new old e = cond-false (eqb a s) new old (ne_eqb a s e)

module _ (net : Net) (m : ℕ → Bool) where
  leaf-length : length (leaf_signals net m) ≡ length (leaves_of net m)
  leaf-length = length-map (leaves_of net m) signal_of

  leaf-number : (i : ℕ) → i < length (leaf_signals net m) → (get_or (leaf_signals net m) i no_signal).0 ≡ get_or (leaves_of net m) i 0
  leaf-number i l = ap (λ (s : Signal). s.0) (get_or-map signal_of (leaves_of net m) i 0 no_signal (let q : i < length (leaves_of net m) = omega (arith, leaf-length) in q))

  pub leaf-below : (xs : List Signal) → xs ≡ leaf_signals net m → (i : ℕ) → i < length xs → (get_or xs i no_signal).0 < size net
  leaf-below xs e i l =
      let q : i < length (leaf_signals net m) = omega (arith, ap length e) in
      let c = chosen_at (size net) (is_leaf net m) i (let r : i < length (leaves_of net m) = omega (arith, leaf-length) in r) in
      let z = c.0 in
      omega (arith, leaf-number i q, ap (λ (xs : List Signal). (get_or xs i no_signal).0) e)

  pub leaf-rising : (xs : List Signal) → xs ≡ leaf_signals net m → (i j : ℕ) → i < j → j < length xs → (get_or xs i no_signal).0 < (get_or xs j no_signal).0
  leaf-rising xs e i j l k =
      let n = ap length e in
      let qi : i < length (leaf_signals net m) = omega arith in
      let qj : j < length (leaf_signals net m) = omega arith in
      let a = chosen-ascending (size net) (is_leaf net m) i j l (let r : j < length (leaves_of net m) = omega (arith, leaf-length) in r) in
      omega (arith, leaf-number i qi, leaf-number j qj, ap (λ (xs : List Signal). (get_or xs i no_signal).0) e, ap (λ (xs : List Signal). (get_or xs j no_signal).0) e)

  pub numbers-from : (xs : List Signal) (before after : ℕ → ℕ) → xs ≡ leaf_signals net m →
      ((i : ℕ) → i < length xs → before (get_or xs i no_signal).0 ≡ i) →
      ((s : ℕ) → s < size net → m s ≡ true → after s ≡ length xs + count_below s m) →
      ((s : ℕ) → m s ≡ false → after s ≡ before s) → Numbers net m after
  unfolding new_of
  numbers-from xs before after e leafs ins outs s l h =
      let n : length xs ≡ length (leaves_of net m) = ap length e ∙ leaf-length in
      ⊎_elim
      (λ y. ins s l y ∙ ap (λ k. k + count_below s m) n ∙ sym (cond-true (m s) _ _ y))
      (λ y.
      let f : is_leaf net m s ≡ true = ⊎_elim (λ g. absurd (both_ways (m s) y g)) (λ g. g) (or_cases (m s) (is_leaf net m s) h) in
      let i : ℕ = count_below s (is_leaf net m) in
      let q : i < length xs = omega (arith, count-lt (size net) s (is_leaf net m) l f, chosen-length (size net) (is_leaf net m)) in
      let q' : i < length (leaf_signals net m) = omega (arith, leaf-length) in
      let at : (get_or xs i no_signal).0 ≡ s = ap (λ (xs : List Signal). (get_or xs i no_signal).0) e ∙ leaf-number i q' ∙ chosen-rank (size net) (is_leaf net m) s l f in
      outs s y ∙ ap before (sym at) ∙ leafs i q ∙ sym (cond-false (m s) _ _ y))
      (cases_Bool (m s))
