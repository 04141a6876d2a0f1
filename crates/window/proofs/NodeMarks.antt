-- Nodes that are marked by a test.
use Rattle.std.proofs.Common.{◌≡◌, ℕ, ◌+◌, ◌-◌, ◌<◌, ◌≤◌, Bool, true, false, ◌&&◌, ◌||◌, eqb, sym, ap, ◌∙◌, ⊎_elim, arith}
use mathlib.Core.Path.{subst⁻¹}
use Rattle.std.proofs.Math.Bool.{or-false}
use Rattle.std.proofs.lemmas.Bool.{cases_eq, cases_Bool, eq-eqb, ne_eqb}
use Rattle.network.specs.Nets.{Net, nodes}
use Rattle.context.specs.Care.{any_below}
use Rattle.context.specs.Levels.{whole}
use Rattle.context.proofs.Any.{any_same}
use Rattle.context.proofs.Levels.{whole-exact}
use Rattle.window.proofs.Steps.{common-any}

-- of the first n nodes those are marked that had a mark or have passed: P says what the test may answer
pub record PartWay (net : Net) (P : ℕ → Bool → Type 0) (X Y : ℕ → Bool) (n : ℕ) : Type 0 where
  pub passed : (k : ℕ) → k < n → (b : Bool) × P k b × (Y (net.inputs + k) ≡ (X (net.inputs + k) || b))
  pub inputs : (s : ℕ) → s < net.inputs → Y s ≡ X s
  pub later : (s : ℕ) → net.inputs + n ≤ s → Y s ≡ X s

module _ (net : Net) (P : ℕ → Bool → Type 0) (X : ℕ → Bool) where
  other : (Y Y' : ℕ → Bool) (k s : ℕ) → ((s : ℕ) → Y' s ≡ (Y s || eqb k s)) → (k ≡ s → ⊥) → Y' s ≡ Y s
  other Y Y' k s is ne = is s ∙ ap (λ b. Y s || b) (ne_eqb k s ne) ∙ or-false (Y s)

  -- node n passes
  pub one-passed : (Y Y' : ℕ → Bool) (n k : ℕ) → PartWay net P X Y n → P n true → k ≡ net.inputs + n → ((s : ℕ) → Y' s ≡ (Y s || eqb k s)) → PartWay net P X Y' (n + 1)
  one-passed Y Y' n k p y e is = record {
    passed = λ i l. ⊎_elim
        (λ g.
        let s : ℕ = net.inputs + n in
        let z : Y' s ≡ (X s || true) = is s ∙ ap (λ b. Y s || b) (eq-eqb k s e) ∙ ap (λ b. b || true) (p.later s (omega arith)) in
        subst⁻¹ (λ j. (b : Bool) × P j b × (Y' (net.inputs + j) ≡ (X (net.inputs + j) || b))) g (true, y, z))
        (λ ne.
        let w = p.passed i (omega arith) in
        (w.0, w.1, other Y Y' k (net.inputs + i) is (λ q. ne (omega arith)) ∙ w.2))
        (cases_eq i n);
    inputs = λ s l. other Y Y' k s is (λ q. omega arith) ∙ p.inputs s l;
    later = λ s l. other Y Y' k s is (λ q. omega arith) ∙ p.later s (omega arith);
  }

  -- node n does not
  pub one-failed : (Y : ℕ → Bool) (n : ℕ) → PartWay net P X Y n → P n false → PartWay net P X Y (n + 1)
  one-failed Y n p y = record {
    passed = λ i l. ⊎_elim
        (λ g. subst⁻¹ (λ j. (b : Bool) × P j b × (Y (net.inputs + j) ≡ (X (net.inputs + j) || b))) g (false, y, p.later (net.inputs + n) (omega arith) ∙ sym (or-false (X (net.inputs + n)))))
        (λ ne. p.passed i (omega arith))
        (cases_eq i n);
    inputs = p.inputs;
    later = λ s l. p.later s (omega arith);
  }

module _ (net : Net) (X Y : ℕ → Bool) (others : (s : ℕ) → whole net s ≡ false → Y s ≡ X s) where
  -- those nodes are marked that have q
  pub nodes-marked : (q : ℕ → Bool) → ((n : ℕ) → n < nodes net → Y (net.inputs + n) ≡ (X (net.inputs + n) || q (net.inputs + n))) → (s : ℕ) → Y s ≡ (X s || (whole net s && q s))
  nodes-marked q h s =
      ⊎_elim
      (λ y.
      let w = (whole-exact net s).0 y in
      let a = w.0 in
      let b = w.1 in
      let n : ℕ = s - net.inputs in
      let e : net.inputs + n ≡ s = omega arith in
      sym (ap Y e) ∙ h n (omega arith) ∙ ap (λ k. X k || q k) e ∙ ap (λ b. X s || (b && q s)) (sym y))
      (λ y. others s y ∙ sym (or-false (X s)) ∙ ap (λ b. X s || (b && q s)) (sym y))
      (cases_Bool (whole net s))

  -- by the numbers of the nodes
  pub numbers-marked : (a : ℕ → Bool) → ((n : ℕ) → n < nodes net → Y (net.inputs + n) ≡ (X (net.inputs + n) || a n)) → (s : ℕ) → Y s ≡ (X s || any_below (nodes net) (λ j. eqb (net.inputs + j) s && a j))
  numbers-marked a h s =
      let q : ℕ → Bool = λ k. a (k - net.inputs) in
      let back : (n : ℕ) → n ≡ net.inputs + n - net.inputs = λ n. omega arith in
      nodes-marked q (λ n l. h n l ∙ ap (λ k. X (net.inputs + n) || a k) (back n)) s
      ∙ ap (λ b. X s || b) (sym (common-any net q s) ∙ any_same (nodes net) (λ j. eqb (net.inputs + j) s && q (net.inputs + j)) (λ j. eqb (net.inputs + j) s && a j)
      (λ j _. ap (λ k. eqb (net.inputs + j) s && a k) (sym (back j))))
