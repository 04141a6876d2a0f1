-- The bytes of a function that has no bit at or above 2 ^ c, and its bits.
use Rattle.std.proofs.Common.{◌≡◌, ℕ, zero, suc, ◌+◌, ◌-◌, ◌*◌, ◌/◌, ◌%◌, ◌^◌, ◌<◌, ◌≤◌, min, false, length, get_or, sym, ap, ◌∙◌, subst, inl, inr, zero-mul, arith, pow_mono}
use Rattle.std.proofs.lemmas.List.{get_or_past}
use Rattle.std.proofs.lemmas.Bool.{cases_lt, cases_eq, ne_eqb, eqb-false}
use Rattle.std.proofs.lemmas.Nat.{pow-add, pow_pos, shr_below, shr_split, shr_high, mod_below}
use Rattle.network.specs.Limits.{max_fanins, function_bytes}
use Rattle.network.specs.Rows.{bit_at, bit_of, Clean, Bytes}
use Rattle.network.specs.declared.row.Function.{Function}
use Rattle.job.specs.Checks.{width_of}

-- how the function's bytes and its minterms fit
pub record Wide (c : ℕ) : Type 0 where
  pub one : 1 ≤ width_of c
  pub most : width_of c ≤ function_bytes
  pub holds : 2 ^ c ≤ 8 * width_of c
  pub few : c < 3 → width_of c ≡ 1
  pub full : 3 ≤ c → 8 * width_of c ≡ 2 ^ c

pub wide : (c : ℕ) → c ≤ max_fanins → Wide c
wide c h = elim (cases_lt c 3) [
  | inl l ↦ let p : 2 ^ c ≤ 2 ^ 2 = (let q : c ≤ 2 = omega arith in pow_mono q) in
      record { one = omega arith; most = omega arith; holds = omega arith; few = λ _. omega arith; full = λ g. absurd (omega arith) }
  | inr g ↦ let p : 2 ^ c ≤ 2 ^ max_fanins = pow_mono h in
      let e : (c - 3) + 3 ≡ c = omega arith in
      let q : 2 ^ c ≡ 2 ^ (c - 3) * 8 = sym (ap (λ n. 2 ^ n) e) ∙ pow-add 2 (c - 3) 3 in
      let r : 0 < 2 ^ (c - 3) = pow_pos (c - 3) in
      record { one = omega arith; most = omega arith; holds = omega arith; few = λ l. absurd (omega arith); full = λ _. omega arith }
]

-- one bit less: a number below 2 ^ (j + 1) with bit j clear is below 2 ^ j
one_less : (b j : ℕ) → b < 2 ^ suc j → bit_at b j ≡ false → b < 2 ^ j
unfolding bit_at
one_less b j l h =
    let e : suc j ≡ 1 + j = omega arith in
    let q : b / 2 ^ j < 2 ^ 1 = shr_below b 1 j (let z : b < 2 ^ (1 + j) = subst (λ n. b < 2 ^ n) e l in z) in
    let ne : b / 2 ^ j % 2 ≡ 1 → ⊥ = eqb-false (b / 2 ^ j % 2) 1 h in
    let z : b / 2 ^ j ≡ 0 = zero_of (b / 2 ^ j) q ne in
    let s : b / 2 ^ j * 2 ^ j + b % 2 ^ j ≡ b = shr_split b j in
    let m : b % 2 ^ j < 2 ^ j = mod_below b (2 ^ j) (pow_pos j) in
    let t : b / 2 ^ j * 2 ^ j ≡ 0 = ap (λ n. n * 2 ^ j) z ∙ zero-mul (2 ^ j) in
    omega arith
  where
    zero_of : (n : ℕ) → n < 2 → (n % 2 ≡ 1 → ⊥) → n ≡ 0
    zero_of n l ne = elim (cases_eq n 0) [
      | inl e ↦ e
      | inr ne0 ↦ let one : n ≡ 1 = omega arith in absurd (ne (omega arith))
    ]

-- d clear bits at the top
high-clear : (d b j : ℕ) → b < 2 ^ (d + j) → ((i : ℕ) → j ≤ i → i < d + j → bit_at b i ≡ false) → b < 2 ^ j
high-clear zero b j l h = let e : 0 + j ≡ j = omega arith in subst (λ n. b < 2 ^ n) e l
high-clear (suc d) b j l h =
    let e : suc d + j ≡ suc (d + j) = omega arith in
    high-clear d b j (one_less b (d + j) (subst (λ n. b < 2 ^ n) e l) (h (d + j) (omega arith) (omega arith))) (λ i p q. h i p (omega arith))

bit_high : (b i : ℕ) → b < 2 ^ i → bit_at b i ≡ false
unfolding bit_at
bit_high b i l =
    let z : b / 2 ^ i ≡ 0 = let w : b ≡ 0 * 2 ^ i + b = omega (arith, zero-mul (2 ^ i)) in ap (λ n. n / 2 ^ i) w ∙ shr_high 0 i b l in
    ne_eqb (b / 2 ^ i % 2) 1 (λ e. omega (arith, z))

bit-zero : (i : ℕ) → bit_at 0 i ≡ false
bit-zero i = bit_high 0 i (pow_pos i)

-- a function whose first byte is small enough, and whose bytes past those of its minterms are 0, is clean
pub clean-from : (c : ℕ) (f : Function) → c ≤ max_fanins → get_or f.bytes 0 0 < 2 ^ (2 ^ min c 3) → ((k : ℕ) → width_of c ≤ k → get_or f.bytes k 0 ≡ 0) → Clean c f
unfolding bit_of
clean-from c f h first past y low top =
    let w = wide c h in
    elim (cases_lt (y / 8) (width_of c)) [
      | inr g ↦ ap (λ b. bit_at b (y % 8)) (past (y / 8) g) ∙ bit-zero (y % 8)
      | inl l ↦ elim (cases_lt c 3) [
        | inr g ↦ let e = w.full g in absurd (omega arith)
        | inl s ↦ let one : width_of c ≡ 1 = w.few s in
            let z : y / 8 ≡ 0 = omega arith in
            let m : min c 3 ≡ c = omega arith in
            let small : get_or f.bytes 0 0 < 2 ^ (2 ^ c) = subst (λ n. get_or f.bytes 0 0 < 2 ^ (2 ^ n)) m first in
            let up : 2 ^ (2 ^ c) ≤ 2 ^ (y % 8) = (let q : 2 ^ c ≤ y % 8 = omega arith in pow_mono q) in
            ap (λ n. bit_at (get_or f.bytes n 0) (y % 8)) z ∙ bit_high (get_or f.bytes 0 0) (y % 8) (omega arith)
      ]
    ]

module _ (c : ℕ) (f : Function) (h : c ≤ max_fanins) (long : length f.bytes ≡ function_bytes) (byte : Bytes f) (clean : Clean c f) where
  -- bit i of byte k
  bit-of : (k i : ℕ) → i < 8 → bit_of f (8 * k + i) ≡ bit_at (get_or f.bytes k 0) i
  unfolding bit_of
  bit-of k i l =
      let d : (8 * k + i) / 8 ≡ k = omega arith in
      let m : (8 * k + i) % 8 ≡ i = omega arith in
      ap (λ n. bit_at (get_or f.bytes n 0) ((8 * k + i) % 8)) d ∙ ap (bit_at (get_or f.bytes k 0)) m

  -- the bytes past those of the minterms are 0
  pub clean-past : (k : ℕ) → width_of c ≤ k → get_or f.bytes k 0 ≡ 0
  clean-past k l = elim (cases_lt k function_bytes) [
    | inr g ↦ get_or_past f.bytes k 0 (omega arith)
    | inl s ↦ let w = wide c h in
        let b : get_or f.bytes k 0 < 2 ^ 0 = high-clear 8 (get_or f.bytes k 0) 0 (byte k)
        (λ i p q. sym (bit-of k i q) ∙ clean (8 * k + i) (let z = w.holds in omega arith) (omega arith)) in
        omega arith
  ]

  -- and the first byte has no bit at or above 2 ^ c
  pub clean-first : get_or f.bytes 0 0 < 2 ^ (2 ^ min c 3)
  clean-first = elim (cases_lt c 3) [
    | inr g ↦ let m : min c 3 ≡ 3 = omega arith in subst (λ n. get_or f.bytes 0 0 < 2 ^ (2 ^ n)) (sym m) (byte 0)
    | inl s ↦ let m : min c 3 ≡ c = omega arith in
        let p : 2 ^ c ≤ 2 ^ 2 = (let q : c ≤ 2 = omega arith in pow_mono q) in
        let e : (8 - 2 ^ c) + 2 ^ c ≡ 8 = omega arith in
        subst (λ n. get_or f.bytes 0 0 < 2 ^ (2 ^ n)) (sym m)
        (high-clear (8 - 2 ^ c) (get_or f.bytes 0 0) (2 ^ c) (subst (λ n. get_or f.bytes 0 0 < 2 ^ n) (sym e) (byte 0))
        (λ i p q. let i8 : i < 8 = omega arith in let z : 8 * 0 + i ≡ i = omega arith in sym (bit-of 0 i i8) ∙ ap (bit_of f) z ∙ clean i p (omega arith)))
  ]
