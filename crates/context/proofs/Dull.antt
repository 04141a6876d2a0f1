-- Assignments that show nothing that is not listed.
use Rattle.std.proofs.Common.{◌≡◌, ℕ, ◌^◌, ◌≤◌, Bool, true, false, not, ◌||◌, eqb, sym, refl, ap, ◌∙◌, ap₂, ⊎_elim}
use Rattle.std.proofs.lemmas.Bool.{cases_Bool, both_ways, and_parts, eqb-true, or_cases, or_parts, or_left, or_right, not-true, not-false, not_from_false}
use Rattle.network.specs.Rows.{bit_at}
use Rattle.network.specs.Nets.{Net, row_at}
use Rattle.theory.specs.Values.{AgreeBelow, minterm_at}
use Rattle.context.specs.Care.{count_below, differs, care, free, care_count, dull, DullBelow}
use Rattle.context.proofs.Counts.{count-within, count_same}
use Rattle.context.proofs.Care.{reads-at-same, differs-same, care-shown, care-some}

module _ (net : Net) (t : ℕ) where
  -- only the bits of the inputs matter
  pub dull-same : (listed x y : ℕ → Bool) → AgreeBelow net.inputs x y → dull net t listed x ≡ dull net t listed y
  dull-same listed x y h = ap₂ (λ d r. not d || listed r) (differs-same net t x y h) (reads-at-same net t x y h)

  -- what an assignment that is not dull shows
  pub dull-found : (listed x : ℕ → Bool) → dull net t listed x ≡ false → (care net t (minterm_at net t x) ≡ true) × (listed (minterm_at net t x) ≡ false)
  dull-found listed x h =
      let p = or_parts (not (differs net t x)) (listed (minterm_at net t x)) h in
      (care-some net t x (minterm_at net t x) refl (not-false (differs net t x) p.0), p.1)

  -- nothing that is not listed has been shown
  pub dull-settled : (listed : ℕ → Bool) → DullBelow net t listed (2 ^ net.inputs) → (y : ℕ) → listed y ≡ false → free net t y ≡ true
  dull-settled listed all y h =
      ⊎_elim
      (λ c.
      let w = (care-shown net t y).0 c in
      let x : ℕ → Bool = bit_at w.0 in
      let p = and_parts (eqb (minterm_at net t x) y) (differs net t x) w.2 in
      let r : minterm_at net t x ≡ y = eqb-true _ _ p.0 in
      absurd (⊎_elim
      (λ n. both_ways (differs net t x) (not-true _ n) p.1)
      (λ n. both_ways (listed y) h (ap listed (sym r) ∙ n))
      (or_cases (not (differs net t x)) (listed (minterm_at net t x)) (all w.0 w.1))))
      (λ c. not_from_false (care net t y) c)
      (cases_Bool (care net t y))

  -- a longer list
  pub dull-longer : (listed listed' x : ℕ → Bool) → ((y : ℕ) → listed y ≡ true → listed' y ≡ true) → dull net t listed x ≡ true → dull net t listed' x ≡ true
  dull-longer listed listed' x more h =
      ⊎_elim
      (λ n. or_left (not (differs net t x)) (listed' (minterm_at net t x)) n)
      (λ n. or_right (not (differs net t x)) (listed' (minterm_at net t x)) (more (minterm_at net t x) n))
      (or_cases (not (differs net t x)) (listed (minterm_at net t x)) h)

  -- a list of care minterms, and one after all assignments
  pub listed-within : (listed : ℕ → Bool) → ((y : ℕ) → listed y ≡ true → care net t y ≡ true) → count_below (2 ^ (row_at net t).count) listed ≤ care_count net t
  listed-within listed sound = count-within (2 ^ (row_at net t).count) listed (care net t) (λ y _. sound y)

  pub listed-whole : (listed : ℕ → Bool) → ((y : ℕ) → listed y ≡ true → care net t y ≡ true) → DullBelow net t listed (2 ^ net.inputs) → (y : ℕ) → listed y ≡ care net t y
  listed-whole listed sound all y =
      ⊎_elim (λ e. e ∙ sym (sound y e)) (λ e. e ∙ sym (not-true (care net t y) (dull-settled listed all y e))) (cases_Bool (listed y))

  pub listed-count : (listed : ℕ → Bool) → ((y : ℕ) → listed y ≡ true → care net t y ≡ true) → DullBelow net t listed (2 ^ net.inputs) →
      count_below (2 ^ (row_at net t).count) listed ≡ care_count net t
  listed-count listed sound all = count_same (2 ^ (row_at net t).count) listed (care net t) (λ y _. listed-whole listed sound all y)
