-- A set to which the readers of its signals are added, from the last node down.
use Rattle.std.proofs.Common.{◌≡◌, ℕ, ◌+◌, ◌<◌, ◌≤◌, Bool, true, false, ◌&&◌, ◌||◌, nat_eq, sym, refl, ap, ◌∙◌, ⊎_elim, arith}
use Rattle.std.proofs.Math.Bool.{or-false, and-false, and-true}
use Rattle.std.proofs.lemmas.Bool.{cases_lt, cases_eq, cases_Bool, and_from, eqb-true, eq-eqb}
use Rattle.network.specs.Rows.{fanin}
use Rattle.network.specs.Nets.{Net, LegalNet, nodes, row_at}
use Rattle.context.specs.Care.{any_below}
use Rattle.context.proofs.Any.{any-never, any_some, any_same}
use Rattle.window.specs.Sets.{fed}

-- whether node n reads a signal of the set
abbrev pub reader : Net → (ℕ → Bool) → ℕ → Bool
reader net X n = any_below (row_at net n).count (λ i. X (fanin (row_at net n) i))

-- from node n on the readers of X are added, and below it nothing is
pub record ReadDown (net : Net) (X : ℕ → Bool) (n : ℕ) (Y : ℕ → Bool) : Type 0 where
  pub below : (s : ℕ) → s < net.inputs + n → Y s ≡ X s
  pub above : (s : ℕ) → net.inputs + n ≤ s → Y s ≡ (X s || fed net X (nodes net) s)

module _ (net : Net) (X : ℕ → Bool) where
  unequal : (a b : ℕ) → a < b → nat_eq a b ≡ false
  unequal a b h = ⊎_elim (λ (t : nat_eq a b ≡ true). let e : a ≡ b = eqb-true _ _ t in absurd (omega arith)) (λ f. f) (cases_Bool (nat_eq a b))

  -- no input is a reader
  pub fed-input : (s : ℕ) → s < net.inputs → fed net X (nodes net) s ≡ false
  fed-input s h =
      any-never (nodes net) (λ j. nat_eq (net.inputs + j) s && reader net X j)
      (λ j l. ⊎_elim (λ (t : nat_eq (net.inputs + j) s ≡ true). let e : net.inputs + j ≡ s = eqb-true _ _ t in absurd (omega arith)) (λ f. ap (λ b. b && reader net X j) f) (cases_Bool (nat_eq (net.inputs + j) s)))

  -- a signal past the last node is no reader
  pub fed-past : (s : ℕ) → net.inputs + nodes net ≤ s → fed net X (nodes net) s ≡ false
  fed-past s h =
      any-never (nodes net) (λ j. nat_eq (net.inputs + j) s && reader net X j)
      (λ j l. ap (λ b. b && reader net X j) (unequal (net.inputs + j) s (omega arith)))

  -- node n is one exactly if it reads one
  pub fed-node : (n : ℕ) → n < nodes net → fed net X (nodes net) (net.inputs + n) ≡ reader net X n
  fed-node n h =
      let p : ℕ → Bool = λ j. nat_eq (net.inputs + j) (net.inputs + n) && reader net X j in
      ⊎_elim
      (λ (t : reader net X n ≡ true). any_some (nodes net) p n h (and_from _ _ (eq-eqb (net.inputs + n) (net.inputs + n) refl) t) ∙ sym t)
      (λ (f : reader net X n ≡ false).
      any-never (nodes net) p
      (λ j l. ⊎_elim
      (λ (t : nat_eq (net.inputs + j) (net.inputs + n) ≡ true).
      let e : j ≡ n = (let q : net.inputs + j ≡ net.inputs + n = eqb-true _ _ t in omega arith) in
      ap (λ k. nat_eq (net.inputs + j) (net.inputs + n) && reader net X k) e ∙ ap (λ b. nat_eq (net.inputs + j) (net.inputs + n) && b) f ∙ and-false _)
      (λ g. ap (λ b. b && reader net X j) g) (cases_Bool (nat_eq (net.inputs + j) (net.inputs + n))))
      ∙ sym f)
      (cases_Bool (reader net X n))

  -- nothing is added yet
  pub read-none : (n : ℕ) (Y : ℕ → Bool) → nodes net ≤ n → ((s : ℕ) → Y s ≡ X s) → ReadDown net X n Y
  read-none n Y le h = record {
    below = λ s _. h s;
    above = λ s l. h s ∙ sym (ap (λ b. X s || b) (fed-past s (omega arith)) ∙ or-false (X s));
  }

  -- what node n reads is as it was
  pub read-same : (n k : ℕ) (Y : ℕ → Bool) → k ≡ n + 1 → LegalNet net → n < nodes net → ReadDown net X k Y → reader net Y n ≡ reader net X n
  read-same n k Y e legal h r = any_same (row_at net n).count (λ i. Y (fanin (row_at net n) i)) (λ i. X (fanin (row_at net n) i)) (λ i l. let b = (legal.row n h).lower i l in r.below _ (omega arith))

  other : (n s : ℕ) → ((net.inputs + n ≡ s) → ⊥) → nat_eq (net.inputs + n) s ≡ false
  other n s ne = ⊎_elim (λ (t : nat_eq (net.inputs + n) s ≡ true). absurd (ne (eqb-true _ _ t))) (λ f. f) (cases_Bool (nat_eq (net.inputs + n) s))

  -- one node more, which is added exactly if it reads one: q says whether it was
  pub read-more : (n k : ℕ) (Y Z : ℕ → Bool) (q : Bool) → k ≡ n + 1 → n < nodes net → q ≡ reader net X n → ((s : ℕ) → Z s ≡ (Y s || (q && nat_eq (net.inputs + n) s))) → ReadDown net X k Y → ReadDown net X n Z
  read-more n k Y Z q e h is z r = record {
    below = λ s l. z s ∙ ap (λ b. Y s || (q && b)) (other n s (λ w. omega (arith, w))) ∙ ap (λ b. Y s || b) (and-false q) ∙ or-false (Y s) ∙ r.below s (omega arith);
    above = λ s l. ⊎_elim
        (λ (w : net.inputs + n ≡ s).
        let here : Y s ≡ X s = r.below s (omega arith) in
        z s ∙ ap (λ b. Y s || (q && b)) (eq-eqb (net.inputs + n) s w) ∙ ap (λ b. Y s || b) (and-true q) ∙ ap (λ b. b || q) here
        ∙ ap (λ b. X s || b) (is ∙ sym (fed-node n h) ∙ ap (λ m. fed net X (nodes net) m) w))
        (λ ne.
        z s ∙ ap (λ b. Y s || (q && b)) (other n s ne) ∙ ap (λ b. Y s || b) (and-false q) ∙ or-false (Y s) ∙ r.above s (omega arith))
        (cases_eq (net.inputs + n) s);
  }

  -- all is added
  pub read-all : (Y : ℕ → Bool) → ReadDown net X 0 Y → (s : ℕ) → Y s ≡ (X s || fed net X (nodes net) s)
  read-all Y r s = ⊎_elim
      (λ (l : s < net.inputs). r.below s (omega arith) ∙ sym (ap (λ b. X s || b) (fed-input s l) ∙ or-false (X s)))
      (λ (l : net.inputs ≤ s). r.above s (omega arith))
      (cases_lt s net.inputs)
