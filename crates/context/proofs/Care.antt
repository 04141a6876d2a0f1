-- Care, free, and what another function does to the outputs.
use Rattle.std.proofs.Common.{◌≡◌, ℕ, ◌+◌, ◌^◌, ◌<◌, Bool, true, false, not, ◌&&◌, eqb, ◌⊎◌, length, Some, None, Decides, sym, refl, ap, ◌∙◌, subst, ap₂, inl, inr, ⊎_elim}
use mathlib.Core.Path.{subst⁻¹}
use mathlib.Core.Bool.{xor}
use Rattle.std.proofs.lemmas.Bool.{cases_Bool, both_ways, eq-eqb, eqb-true, and_parts, and_from, not-true, not_from_false}
use Rattle.network.specs.Rows.{bit_at, bit_of, fanin}
use Rattle.network.specs.Nets.{Net, nodes, size, row_at, output_at, replaced}
use Rattle.network.specs.declared.row.Function.{Function}
use Rattle.theory.specs.Values.{AgreeBelow, number, reads, flipped, turns, value, output, minterm_at, bit_read, target, Lowers}
use Rattle.theory.specs.Same.{SameOutputs}
use Rattle.theory.proofs.Numbers.{number-below, bit-number}
use Rattle.theory.proofs.Values.{reads_same, reads-below}
use Rattle.theory.proofs.Inputs.{value_same}
use Rattle.theory.proofs.Replace.{same_or_not, only_none, only-some, turns-here, turns-none, trade, same, inverted, either, lower, row_here}
use Rattle.context.specs.Care.{differs, shows, care, free, CDC, SameOnCare, Differ}
use Rattle.context.proofs.Any.{any-find, any_none, any_some, any_same}

pub xor_self : (a : Bool) → xor a a ≡ false
unfolding xor
xor_self true = refl
xor_self false = refl

pub xor-apart : (a b : Bool) → xor a b ≡ true → a ≡ b → ⊥
xor-apart a b h e = both_ways (xor a b) (ap (λ c. xor c b) e ∙ xor_self b) h

pub xor-equal : (a b : Bool) → xor a b ≡ false → a ≡ b
unfolding xor
xor-equal true true h = refl
xor-equal true false h = h
xor-equal false true h = sym h
xor-equal false false h = refl

pub xor-from : (a b : Bool) → (a ≡ b → ⊥) → xor a b ≡ true
xor-from a b h = ⊎_elim (λ e. e) (λ e. absurd (h (xor-equal a b e))) (cases_Bool (xor a b))

pub xor-swap : (a b : Bool) → xor a b ≡ xor b a
unfolding xor
xor-swap true true = refl
xor-swap true false = refl
xor-swap false true = refl
xor-swap false false = refl

pub not-not : (a b : Bool) → a ≡ not b → not a ≡ b
not-not a true h = ap not h
not-not a false h = ap not h

-- a value differs from its inverse
pub apart : (a b : Bool) → a ≡ not b → a ≡ b → ⊥
apart a true h e = both_ways a h e
apart a false h e = both_ways a e h

module _ (net : Net) (t : ℕ) where
  -- only the bits of the inputs matter
  pub reads-at-same : (x y : ℕ → Bool) → AgreeBelow net.inputs x y → minterm_at net t x ≡ minterm_at net t y
  reads-at-same x y h = reads_same (row_at net t) (value None net x) (value None net y) (λ i k. value_same None net x y h (fanin (row_at net t) i))

  pub differs-same : (x y : ℕ → Bool) → AgreeBelow net.inputs x y → differs net t x ≡ differs net t y
  differs-same x y h =
      any_same (length net.outputs) (λ j. xor (output None net x j) (output (target net t) net x j)) (λ j. xor (output None net y j) (output (target net t) net y j))
      (λ j k. ap₂ xor (value_same None net x y h (output_at net j)) (value_same (target net t) net x y h (output_at net j)))

  pub shows_same : (x x' : ℕ → Bool) (y : ℕ) → AgreeBelow net.inputs x x' → shows net t x y ≡ shows net t x' y
  shows_same x x' y h = ap₂ (λ a b. eqb a y && b) (reads-at-same x x' h) (differs-same x x' h)

  -- an assignment's number shows what the assignment shows
  pub shows-number : (x : ℕ → Bool) (y : ℕ) → shows net t (bit_at (number x net.inputs)) y ≡ shows net t x y
  shows-number x y = shows_same (bit_at (number x net.inputs)) x y (bit-number x net.inputs)

  -- some output differs
  pub differs-find : (x : ℕ → Bool) → differs net t x ≡ true → (j : ℕ) × (j < length net.outputs) × (output None net x j ≡ output (target net t) net x j → ⊥)
  differs-find x h =
      let w = any-find (length net.outputs) (λ j. xor (output None net x j) (output (target net t) net x j)) h in
      (w.0, w.1, xor-apart (output None net x w.0) (output (target net t) net x w.0) w.2)

  -- no output differs
  pub differs_none : (x : ℕ → Bool) → differs net t x ≡ false → (j : ℕ) → j < length net.outputs → output None net x j ≡ output (target net t) net x j
  differs_none x h j k = xor-equal _ _ (any_none (length net.outputs) (λ j. xor (output None net x j) (output (target net t) net x j)) h j k)

  -- y is care exactly if some assignment below 2 ^ inputs shows it
  pub care-shown : (y : ℕ) → Decides (care net t y) ((a : ℕ) × (a < 2 ^ net.inputs) × (shows net t (bit_at a) y ≡ true))
  unfolding care
  care-shown y = (any-find (2 ^ net.inputs) (λ a. shows net t (bit_at a) y), λ w. any_some (2 ^ net.inputs) (λ a. shows net t (bit_at a) y) w.0 w.1 w.2)

  -- whatever assignment shows y
  pub care-some : (x : ℕ → Bool) (y : ℕ) → minterm_at net t x ≡ y → differs net t x ≡ true → care net t y ≡ true
  care-some x y r d =
      (care-shown y).1 (number x net.inputs, number-below x net.inputs, shows-number x y ∙ and_from (eqb (minterm_at net t x) y) (differs net t x) (eq-eqb _ _ r) d)

  pub care-find : (y : ℕ) → care net t y ≡ true → (x : ℕ → Bool) × (minterm_at net t x ≡ y) × (differs net t x ≡ true)
  care-find y h =
      let w = (care-shown y).0 h in
      let q = and_parts (eqb (minterm_at net t (bit_at w.0)) y) (differs net t (bit_at w.0)) w.2 in
      (bit_at w.0, eqb-true _ _ q.0, q.1)

  -- under an assignment that reads a minterm without care no output differs
  pub care-quiet : (x : ℕ → Bool) (y : ℕ) → care net t y ≡ false → minterm_at net t x ≡ y → differs net t x ≡ false
  care-quiet x y h r = ⊎_elim (λ e. absurd (both_ways (care net t y) h (care-some x y r e))) (λ e. e) (cases_Bool (differs net t x))

  -- a minterm without care is a complete don't-care
  pub quiet-cdc : (y : ℕ) → care net t y ≡ false → CDC net t y
  quiet-cdc y h x r = differs_none x (care-quiet x y h r)

  pub cdc-quiet : (y : ℕ) → CDC net t y → care net t y ≡ false
  cdc-quiet y h =
      ⊎_elim
      (λ e.
      let w = care-find y e in
      let d = differs-find w.0 w.2 in
      absurd (d.2 (h w.0 w.1 d.0 d.1)))
      (λ e. e)
      (cases_Bool (care net t y))

  -- free is exactly the complete don't-care
  pub free-exact : (y : ℕ) → Decides (free net t y) (CDC net t y)
  free-exact y = (λ h. quiet-cdc y (not-true (care net t y) h), λ h. not_from_false (care net t y) (cdc-quiet y h))

  -- a care minterm is a number of as many bits as there are fanins
  pub care-below : (y : ℕ) → care net t y ≡ true → y < 2 ^ (row_at net t).count
  care-below y h = let w = care-find y h in subst (λ (y : ℕ). y < 2 ^ (row_at net t).count) w.1 (reads-below (row_at net t) (value None net w.0))

-- every output is a signal
abbrev pub Exits : Net → Type 0
Exits net = (j : ℕ) → j < length net.outputs → output_at net j < size net

module _ (net : Net) (t : ℕ) (low : Lowers net) (exits : Exits net) (l : t < nodes net) where
  -- a function that has the node's value, or the other one, at the minterm that is read
  pub after : (f : Function) (x : ℕ → Bool) (j : ℕ) → j < length net.outputs →
      ((bit_read net t f x ≡ bit_read net t (row_at net t).function x) × (output None (replaced net t f) x j ≡ output None net x j))
      ⊎ ((bit_read net t f x ≡ not (bit_read net t (row_at net t).function x)) × (output None (replaced net t f) x j ≡ output (target net t) net x j))
  after f x j k =
      ⊎_elim
      (λ e. inl (e, same net t f l x low e (output_at net j) (exits j k)))
      (λ e. inr (e, inverted net t f l x low e (output_at net j) (exits j k)))
      (either net t f l x)

  -- functions with one value at the minterm that is read give one value at each output
  pub alike : (f g : Function) (x : ℕ → Bool) (j : ℕ) → j < length net.outputs → bit_read net t f x ≡ bit_read net t g x →
      output None (replaced net t g) x j ≡ output None (replaced net t f) x j
  alike f g x j k e =
      ⊎_elim
      (λ p. ⊎_elim (λ q. q.1 ∙ sym p.1) (λ q. absurd (apart _ _ q.0 (sym e ∙ p.0))) (after g x j k))
      (λ p. ⊎_elim (λ q. absurd (apart _ _ p.0 (e ∙ q.0))) (λ q. q.1 ∙ sym p.1) (after g x j k))
      (after f x j k)

  -- where inverting the node changes an output, functions with other values do so
  pub unlike : (f g : Function) (x : ℕ → Bool) (j : ℕ) → j < length net.outputs → (bit_read net t f x ≡ bit_read net t g x → ⊥) →
      (output None net x j ≡ output (target net t) net x j → ⊥) → output None (replaced net t g) x j ≡ output None (replaced net t f) x j → ⊥
  unlike f g x j k ne d e =
      ⊎_elim
      (λ p. ⊎_elim (λ q. ne (p.0 ∙ sym q.0)) (λ q. d (sym p.1 ∙ sym e ∙ q.1)) (after g x j k))
      (λ p. ⊎_elim (λ q. d (sym q.1 ∙ e ∙ p.1)) (λ q. ne (p.0 ∙ sym q.0)) (after g x j k))
      (after f x j k)

  -- where inverting the node changes no output, no function does
  pub silent : (f g : Function) (x : ℕ → Bool) (j : ℕ) → j < length net.outputs → output None net x j ≡ output (target net t) net x j →
      output None (replaced net t g) x j ≡ output None (replaced net t f) x j
  silent f g x j k d =
      let at : (h : Function) → output None (replaced net t h) x j ≡ output None net x j = λ h. ⊎_elim (λ p. p.1) (λ p. p.1 ∙ sym d) (after h x j k) in
      at g ∙ sym (at f)

  -- functions that agree wherever inverting the node can be seen
  pub same-outputs : (f g : Function) → ((x : ℕ → Bool) → (bit_read net t f x ≡ bit_read net t g x) ⊎ CDC net t (minterm_at net t x)) → SameOutputs (replaced net t f) (replaced net t g)
  same-outputs f g h = record {
    inputs = refl;
    count = refl;
    values = λ x j k. ⊎_elim (λ e. alike f g x j k e) (λ c. silent f g x j k (c x refl j k)) (h x);
  }

  -- two functions that agree on the care minterms
  pub safe : (f g : Function) → SameOnCare net t f g → SameOutputs (replaced net t f) (replaced net t g)
  safe f g agrees =
      same-outputs f g (λ x.
      ⊎_elim (λ c. inl (agrees (minterm_at net t x) c)) (λ c. inr (quiet-cdc net t (minterm_at net t x) c)) (cases_Bool (care net t (minterm_at net t x))))

  -- two functions that differ on one
  pub harm : (f g : Function) (y : ℕ) → care net t y ≡ true → (bit_of f y ≡ bit_of g y → ⊥) → Differ (replaced net t f) (replaced net t g)
  harm f g y c ne =
      let w = care-find net t y c in
      let x : ℕ → Bool = w.0 in
      let d = differs-find net t x w.2 in
      let ne' : bit_read net t f x ≡ bit_read net t g x → ⊥ = subst⁻¹ (λ (y : ℕ). bit_of f y ≡ bit_of g y → ⊥) w.1 ne in
      (x, d.0, d.1, unlike f g x d.0 d.1 ne' d.2)

  -- so the same outputs come from functions that agree on the care minterms alone
  pub only-safe : (f g : Function) → SameOutputs (replaced net t f) (replaced net t g) → SameOnCare net t f g
  only-safe f g s y c =
      ⊎_elim (λ e. e) (λ e. let d = harm f g y c (apart _ _ e) in absurd (d.3 (s.values d.0 d.1 d.2))) (same_or_not (bit_of f y) (bit_of g y))

  -- what node t reads does not depend on its function
  pub reads-replaced : (f : Function) (x : ℕ → Bool) → minterm_at (replaced net t f) t x ≡ minterm_at net t x
  unfolding reads
  reads-replaced f x =
      ap (λ r. reads r (value None (replaced net t f) x)) (row_here net t f l)
      ∙ reads_same (row_at net t) (value None (replaced net t f) x) (value None net x) (λ i k. lower net t f l x low (fanin (row_at net t) i) (low t l i k))

  -- nor does which assignments make an output differ
  pub differs-replaced : (f : Function) (x : ℕ → Bool) → differs (replaced net t f) t x ≡ differs net t x
  differs-replaced f x =
      let T = net.inputs + t in
      any_same (length net.outputs) (λ j. xor (output None (replaced net t f) x j) (output (target net t) (replaced net t f) x j)) (λ j. xor (output None net x j) (output (target net t) net x j))
      (λ j k.
      let o = output_at net j in
      let q = exits j k in
      ⊎_elim
      (λ e. ap₂ xor (same net t f l x low e o q) (trade net t f l (Some T) (Some T) x low (only-some T) (only-some T) (ap (flipped (turns (Some T) T)) e) o q))
      (λ e. ap₂ xor (inverted net t f l x low e o q)
      (trade net t f l None (Some T) x low (only_none T) (only-some T) (rw (turns-none T, turns-here T) (not-not _ _ e)) o q)
      ∙ xor-swap (output (target net t) net x j) (output None net x j))
      (either net t f l x))

  pub care-replaced : (f : Function) (y : ℕ) → care (replaced net t f) t y ≡ care net t y
  unfolding care
  care-replaced f y =
      any_same (2 ^ net.inputs) (λ a. shows (replaced net t f) t (bit_at a) y) (λ a. shows net t (bit_at a) y)
      (λ a _. ap₂ (λ r d. eqb r y && d) (reads-replaced f (bit_at a)) (differs-replaced f (bit_at a)))
