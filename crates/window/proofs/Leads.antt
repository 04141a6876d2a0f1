-- What a node leads to, one node more.
use Rattle.std.proofs.Common.{◌≡◌, ℕ, ◌+◌, ◌<◌, ◌≤◌, Bool, true, false, ◌&&◌, ◌||◌, eqb, sym, ap, ◌∙◌, ⊎_elim, arith}
use Rattle.std.proofs.Math.Bool.{or-true, or-false, and-false}
use Rattle.std.proofs.lemmas.Bool.{cases_eq, cases_lt, ne_eqb, eq-eqb}
use Rattle.network.specs.Nets.{Net, size}
use Rattle.theory.specs.Values.{Lowers}
use Rattle.context.specs.Levels.{whole}
use Rattle.context.specs.Windows.{reach_of}
use Rattle.context.proofs.Levels.{whole-exact}
use Rattle.context.proofs.Reaches.{reach-holds}

pub eqb-add : (i n t : ℕ) → eqb n t ≡ eqb (i + n) (i + t)
eqb-add i n t = ⊎_elim (λ e. eq-eqb n t e ∙ sym (eq-eqb (i + n) (i + t) (ap (λ k. i + k) e))) (λ ne. ne_eqb n t ne ∙ sym (ne_eqb (i + n) (i + t) (λ e. ne (omega arith)))) (cases_eq n t)

module _ (X Y r : ℕ → Bool) (a k : ℕ) (below : (s : ℕ) → s < a → X s ≡ r s) (rest : (s : ℕ) → a ≤ s → X s ≡ false) (at : k ≡ a) where
  -- a is led to
  pub led-more : ((s : ℕ) → Y s ≡ (X s || eqb k s)) → r a ≡ true → ((s : ℕ) → s < a + 1 → Y s ≡ r s) × ((s : ℕ) → a + 1 ≤ s → Y s ≡ false)
  led-more is y = (
    λ s l. is s ∙ ⊎_elim
        (λ e. ap (λ b. X s || b) (eq-eqb k s (at ∙ sym e)) ∙ or-true (X s) ∙ sym (ap r e ∙ y))
        (λ ne. ap (λ b. X s || b) (ne_eqb k s (λ e. ne (sym e ∙ at))) ∙ or-false (X s) ∙ below s (omega arith))
        (cases_eq s a),
    λ s l. is s ∙ ap (λ b. X s || b) (ne_eqb k s (λ e. omega arith)) ∙ or-false (X s) ∙ rest s (omega arith),
  )

  -- a is not
  pub led-same : r a ≡ false → ((s : ℕ) → s < a + 1 → X s ≡ r s) × ((s : ℕ) → a + 1 ≤ s → X s ≡ false)
  led-same n = (
    λ s l. ⊎_elim (λ e. rest s (omega arith) ∙ sym (ap r e ∙ n)) (λ ne. below s (omega arith)) (cases_eq s a),
    λ s l. rest s (omega arith),
  )

-- what is led to is a node
pub led-whole : (net : Net) (m : ℕ → Bool) (T : ℕ) → Lowers net → (s : ℕ) (b : Bool) → s < size net → (whole net s && (reach_of net m T s && b)) ≡ (reach_of net m T s && b)
led-whole net m T low s b l =
    ⊎_elim
    (λ h.
    let e : reach_of net m T s ≡ false = (reach-holds net m T low).input s h in
    ap (λ r. whole net s && (r && b)) e ∙ and-false (whole net s) ∙ ap (λ r. r && b) (sym e))
    (λ h. ap (λ w. w && (reach_of net m T s && b)) ((whole-exact net s).1 (h, l)))
    (cases_lt s net.inputs)
