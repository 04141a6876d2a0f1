-- Numbers and their bits.
use Rattle.std.proofs.Common.{◌≡◌, ℕ, zero, suc, ◌+◌, ◌-◌, ◌*◌, ◌/◌, ◌%◌, ◌^◌, ◌<◌, ◌≤◌, Bool, true, false, cond, eqb, sym, refl, ap, ◌∙◌, ⊎_elim, add-mul, one-mul, zero-mul, arith}
use mathlib.Core.Path.{subst⁻¹}
use Rattle.std.proofs.lemmas.Bool.{cases_eq, eq-eqb, ne_eqb}
use Rattle.std.proofs.lemmas.Nat.{pow-add, pow_pos, shr_high, shr_split, mod_below, mod_low, mod-pow-add}
use Rattle.network.specs.Rows.{bit_at}
use Rattle.theory.specs.Values.{AgreeBelow, number}

-- equal bits make equal numbers
pub number_same : (x y : ℕ → Bool) (k : ℕ) → AgreeBelow k x y → number x k ≡ number y k
unfolding number
number_same x y zero h = refl
number_same x y (suc k) h =
    let a : number x k ≡ number y k = number_same x y k (λ i l. h i (omega arith)) in
    let b : x k ≡ y k = h k (omega arith) in
    rw (a, b)

pub pow-twice : (k : ℕ) → 2 ^ suc k ≡ 2 ^ k + 2 ^ k
pow-twice k = let s : suc k ≡ k + 1 = omega arith in omega (arith, ap (λ n. 2 ^ n) s, pow-add 2 k 1)

-- k bits make a number below 2 ^ k
pub number-below : (x : ℕ → Bool) (k : ℕ) → number x k < 2 ^ k
unfolding number
number-below x zero = omega arith
number-below x (suc k) =
    let i = number-below x k in
    let e : 2 ^ suc k ≡ 2 ^ k + 2 ^ k = pow-twice k in
    let c : (b : Bool) → cond b (2 ^ k) 0 ≤ 2 ^ k = elim [ false ↦ omega arith | true ↦ omega arith ] in
    omega (arith, c (x k))

-- one higher bit changes no lower one
high : (n j i : ℕ) → i < j → (n + 2 ^ j) / 2 ^ i % 2 ≡ n / 2 ^ i % 2
high n j i h =
    let d : ℕ = j - i - 1 in
    let ej : j ≡ (d + 1) + i = omega arith in
    let p : 2 ^ j ≡ 2 ^ (d + 1) * 2 ^ i = ap (λ m. 2 ^ m) ej ∙ pow-add 2 (d + 1) i in
    let q : 2 ^ (d + 1) ≡ 2 ^ d + 2 ^ d = omega (arith, pow-add 2 d 1) in
    let s : n ≡ n / 2 ^ i * 2 ^ i + n % 2 ^ i = sym (shr_split n i) in
    let r : n % 2 ^ i < 2 ^ i = mod_below n (2 ^ i) (pow_pos i) in
    let a = add-mul (n / 2 ^ i) (2 ^ (d + 1)) (2 ^ i) in
    let w : n + 2 ^ j ≡ (n / 2 ^ i + 2 ^ (d + 1)) * 2 ^ i + n % 2 ^ i = omega (arith, a, p, s) in
    let u : (n + 2 ^ j) / 2 ^ i ≡ n / 2 ^ i + 2 ^ (d + 1) = ap (λ m. m / 2 ^ i) w ∙ shr_high (n / 2 ^ i + 2 ^ (d + 1)) i (n % 2 ^ i) r in
    omega (arith, u, q)

-- the bit on top
top : (n j : ℕ) (b : Bool) → n < 2 ^ j → bit_at (n + cond b (2 ^ j) 0) j ≡ b
unfolding bit_at
top n j true h =
    let w : n + 2 ^ j ≡ 1 * 2 ^ j + n = omega (arith, one-mul (2 ^ j)) in
    let u : (n + 2 ^ j) / 2 ^ j ≡ 1 = ap (λ m. m / 2 ^ j) w ∙ shr_high 1 j n h in
    eq-eqb ((n + 2 ^ j) / 2 ^ j % 2) 1 (omega (arith, u))
top n j false h =
    let w : n + 0 ≡ 0 * 2 ^ j + n = omega (arith, zero-mul (2 ^ j)) in
    let u : (n + 0) / 2 ^ j ≡ 0 = ap (λ m. m / 2 ^ j) w ∙ shr_high 0 j n h in
    ne_eqb ((n + 0) / 2 ^ j % 2) 1 (λ e. omega (arith, u))

lower : (n j i : ℕ) (b : Bool) → i < j → bit_at (n + cond b (2 ^ j) 0) i ≡ bit_at n i
unfolding bit_at
lower n j i true h = ap (λ d. eqb d 1) (high n j i h)
lower n j i false h = let z : n + 0 ≡ n = omega arith in ap (λ m. eqb (m / 2 ^ i % 2) 1) z

-- the bits of the number are those that it is made of
pub bit-number : (x : ℕ → Bool) (k i : ℕ) → i < k → bit_at (number x k) i ≡ x i
unfolding number
bit-number x zero i h = absurd (omega arith)
bit-number x (suc k) i h =
    ⊎_elim
    (λ e. subst⁻¹ (λ (m : ℕ). bit_at (number x k + cond (x k) (2 ^ k) 0) m ≡ x m) e (top (number x k) k (x k) (number-below x k)))
    (λ ne. let l : i < k = omega arith in lower (number x k) k i (x k) l ∙ bit-number x k i l)
    (cases_eq i k)

-- what bit k adds
weight : (d p : ℕ) → d < 2 → cond (eqb d 1) p 0 ≡ d * p
weight d p h =
    ⊎_elim
    (λ (e : d ≡ 1). ap (λ b. cond b p 0) (eq-eqb d 1 e) ∙ sym (ap (λ n. n * p) e ∙ one-mul p))
    (λ ne. let z : d ≡ 0 = omega arith in ap (λ b. cond b p 0) (ne_eqb d 1 ne) ∙ sym (ap (λ n. n * p) z ∙ zero-mul p))
    (cases_eq d 1)

-- the lowest k bits of a
pub number-mod : (a k : ℕ) → number (bit_at a) k ≡ a % 2 ^ k
unfolding number bit_at
number-mod a zero = omega arith
number-mod a (suc k) =
    let s : suc k ≡ 1 + k = omega arith in
    let b : a / 2 ^ k % 2 < 2 = omega arith in
    let w : cond (eqb (a / 2 ^ k % 2) 1) (2 ^ k) 0 ≡ a / 2 ^ k % 2 * 2 ^ k = weight (a / 2 ^ k % 2) (2 ^ k) b in
    let i : number (bit_at a) k ≡ a % 2 ^ k = number-mod a k in
    let m : a % 2 ^ suc k ≡ a / 2 ^ k % 2 * 2 ^ k + a % 2 ^ k = ap (λ n. a % 2 ^ n) s ∙ mod-pow-add a 1 k in
    omega (arith, i, w, m)

-- a number is made of its bits
pub number-bits : (a k : ℕ) → a < 2 ^ k → number (bit_at a) k ≡ a
number-bits a k h =
    let z : a ≡ 0 * 2 ^ k + a = omega (arith, zero-mul (2 ^ k)) in
    number-mod a k ∙ ap (λ n. n % 2 ^ k) z ∙ mod_low 0 k a h
