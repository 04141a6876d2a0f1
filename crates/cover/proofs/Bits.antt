-- Bits of numbers.
use Rattle.std.proofs.Common.{◌≡◌, ℕ, zero, suc, ◌-◌, ◌<◌, Bool, true, false, cond, not, eqb, sym, refl, ⊎_elim, arith}
use Rattle.std.proofs.lemmas.Bool.{and_cases, not-false, true≢false, eqb-true}
use Rattle.network.specs.Rows.{bit_at}
use Rattle.network.proofs.Bits.{every, computed}

-- two tests agree
abbrev pub same : Bool → Bool → Bool
same a b = cond a b (not b)

pub same_true : (a b : Bool) → same a b ≡ true → a ≡ b
same_true true true h = refl
same_true true false h = sym h
same_true false true h = h
same_true false false h = refl

-- the complement of a byte, bit by bit
pub bit_not : (b i : ℕ) → b < 256 → i < 8 → bit_at (255 - b) i ≡ not (bit_at b i)
unfolding bit_at
bit_not b i hb hi =
    same_true (bit_at (255 - b) i) (not (bit_at b i)) (computed 8 (λ i. same (bit_at (255 - b) i) (not (bit_at b i))) (computed 256 (λ b. every 8 (λ i. same (bit_at (255 - b) i) (not (bit_at b i)))) refl b hb) i hi)

some-not : (n : ℕ) (test : ℕ → Bool) → every n (λ i. not (test i)) ≡ false → (i : ℕ) × (i < n) × (test i ≡ true)
some-not zero test e = absurd (true≢false e)
some-not (suc n) test e =
    ⊎_elim (λ f. (n, omega arith, not-false (test n) f)) (λ f. let w = some-not n test f in (w.0, omega (arith, w.1), w.2)) (and_cases (not (test n)) (every n (λ i. not (test i))) e)

-- a byte that is not 0 has a bit
pub some-bit : (n : ℕ) → n < 256 → (n ≡ 0 → ⊥) → (i : ℕ) × (i < 8) × (bit_at n i ≡ true)
unfolding bit_at
some-bit n h ne =
    let t : cond (every 8 (λ i. not (bit_at n i))) (eqb n 0) true ≡ true = computed 256 (λ n. cond (every 8 (λ i. not (bit_at n i))) (eqb n 0) true) refl n h in
    let P : Bool → Type 0 = λ b. cond b (eqb n 0) true ≡ true → b ≡ false in
    let p : P (every 8 (λ i. not (bit_at n i))) = elim (every 8 (λ i. not (bit_at n i))) as P [ true ↦ (λ e. absurd (ne (eqb-true n 0 e))) | false ↦ (λ _. refl) ] in
    some-not 8 (λ i. bit_at n i) (p t)
