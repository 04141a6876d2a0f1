-- One bit of a word that `&`, `|` and `!` make.
use Rattle.std.specs.Prelude.{◌≡◌, ℕ, ◌+◌, ◌-◌, ◌*◌, ◌/◌, ◌%◌, ◌^◌, ◌<◌, min, max, cond, ◌==◌, bit_and, bit_or}
use Rattle.std.proofs.Common.{sym, ap, ◌∙◌, add-mul, arith}
use Rattle.std.proofs.Math.Nat.{zero-div}
use Rattle.std.specs.Int.Bits.{and_step, or_step}
use Rattle.std.proofs.lemmas.Nat.{and_shr, or_shr, shr_split, mod_below, pow_pos, pow-add, shr_high, shr_below, field_of, mod-pow-add}
use Rattle.std.proofs.lemmas.Bool.Decides.{nat_tests}
use Rattle.logic.specs.Limits.{word_bits}
use Rattle.logic.specs.Words.{word_not, word_pick}

-- bit i of n, as a number
abbrev pub digit : ℕ → ℕ → ℕ
digit n i = n / 2 ^ i % 2

pub digit-zero : (i : ℕ) → digit 0 i ≡ 0
digit-zero i = ap (λ n. n % 2) (zero-div (2 ^ i))

digit_and : (a b i : ℕ) → digit (bit_and a b) i ≡ min (digit a i) (digit b i)
digit_and a b i =
    let e = and_shr a b i in
    let s = and_step (a / 2 ^ i) (b / 2 ^ i) in
    omega (arith, ap (λ n. n % 2) e, s)

digit_or : (a b i : ℕ) → digit (bit_or a b) i ≡ max (digit a i) (digit b i)
digit_or a b i =
    let e = or_shr a b i in
    let s = or_step (a / 2 ^ i) (b / 2 ^ i) in
    omega (arith, ap (λ n. n % 2) e, s)

-- the low bits of a number
digit-mod : (s i : ℕ) → i < word_bits → digit (s % 2 ^ word_bits) i ≡ digit s i
digit-mod s i h =
    let e : word_bits ≡ (word_bits - 1 - i + 1) + i = omega arith in
    let f : s % 2 ^ word_bits / 2 ^ i ≡ s / 2 ^ i % 2 ^ (word_bits - 1 - i + 1) = ap (λ n. s % 2 ^ n / 2 ^ i) e ∙ field_of s (word_bits - 1 - i + 1) i in
    omega (arith, f, mod-pow-add (s / 2 ^ i) (word_bits - 1 - i) 1)

-- all but the lowest bit of 2 ^ k
half : (k : ℕ) → 0 < k → 2 ^ k ≡ 2 ^ (k - 1) + 2 ^ (k - 1)
half k h = let e : k ≡ 1 + (k - 1) = omega arith in ap (λ n. 2 ^ n) e ∙ (let q = pow-add 2 1 (k - 1) in omega (arith, q))

-- the word's bits in two parts, from bit i up and below it
split : (i : ℕ) → i < word_bits → 2 ^ word_bits ≡ (2 ^ (word_bits - i - 1) + 2 ^ (word_bits - i - 1)) * 2 ^ i
split i h =
    let e : word_bits ≡ (word_bits - i) + i = omega arith in
    ap (λ n. 2 ^ n) e ∙ pow-add 2 (word_bits - i) i ∙ ap (λ n. n * 2 ^ i) (half (word_bits - i) (omega arith))

other : (P Q a q r : ℕ) → 0 < P → 2 ^ word_bits ≡ (Q + Q) * P → a ≡ q * P + r → r < P → a < 2 ^ word_bits → q < Q + Q → 2 ^ word_bits - 1 - a ≡ (Q + Q - 1 - q) * P + (P - 1 - r)
other P Q a q r pos whole parts small fits below =
    let d : ℕ = Q + Q - 1 - q in
    let e : Q + Q ≡ (d + q) + 1 = omega arith in
    let f : (Q + Q) * P ≡ ((d + q) + 1) * P = ap (λ n. n * P) e in
    omega (arith, f, add-mul (d + q) 1 P, add-mul d q P)

-- the other bit, of a number that fits
digit-other : (a i : ℕ) → i < word_bits → a < 2 ^ word_bits → digit (2 ^ word_bits - 1 - a) i ≡ 1 - digit a i
digit-other a i h f =
    let Q : ℕ = 2 ^ (word_bits - i - 1) in
    let small = mod_below a (2 ^ i) (pow_pos i) in
    let whole : word_bits - i + i ≡ word_bits = omega arith in
    let fits : a < 2 ^ (word_bits - i + i) = omega (arith, ap (λ n. 2 ^ n) whole) in
    let top : a / 2 ^ i < 2 ^ (word_bits - i) = shr_below a (word_bits - i) i fits in
    let below : a / 2 ^ i < Q + Q = omega (arith, half (word_bits - i) (omega arith)) in
    let o = other (2 ^ i) Q a (a / 2 ^ i) (a % 2 ^ i) (pow_pos i) (split i h) (sym (shr_split a i)) small f below in
    let lo : 2 ^ i - 1 - a % 2 ^ i < 2 ^ i = omega arith in
    let k : (2 ^ word_bits - 1 - a) / 2 ^ i ≡ Q + Q - 1 - a / 2 ^ i = ap (λ n. n / 2 ^ i) o ∙ shr_high (Q + Q - 1 - a / 2 ^ i) i (2 ^ i - 1 - a % 2 ^ i) lo in
    omega (arith, k)

-- the other bit
pub digit_not : (s i : ℕ) → i < word_bits → digit (word_not s) i ≡ 1 - digit s i
digit_not s i h =
    let fits : s % 2 ^ word_bits < 2 ^ word_bits = mod_below s (2 ^ word_bits) (omega arith) in
    digit-other (s % 2 ^ word_bits) i h fits ∙ ap (λ n. 1 - n) (digit-mod s i h)

chosen : (s h l x : ℕ) → s < 2 → h < 2 → l < 2 → x ≡ max (min s h) (min (1 - s) l) → (x == 1) ≡ cond (s == 1) (h == 1) (l == 1)
chosen s h l x a b c e = grind (arith, nat_tests)

-- the picked bit
pub digit-pick : (s h l i : ℕ) → i < word_bits → (digit (word_pick s h l) i == 1) ≡ cond (digit s i == 1) (digit h i == 1) (digit l i == 1)
digit-pick s h l i below =
    let e : digit (word_pick s h l) i ≡ max (min (digit s i) (digit h i)) (min (1 - digit s i) (digit l i)) =
    digit_or (bit_and s h) (bit_and (word_not s) l) i ∙
    ap (λ w. max w (digit (bit_and (word_not s) l) i)) (digit_and s h i) ∙
    ap (λ w. max (min (digit s i) (digit h i)) w) (digit_and (word_not s) l i ∙ ap (λ w. min w (digit l i)) (digit_not s i below)) in
    chosen (digit s i) (digit h i) (digit l i) _ (omega arith) (omega arith) (omega arith) e
