-- The bits of a function in pairs.
use Rattle.std.proofs.Common.{◌≡◌, ℕ, ◌+◌, ◌*◌, ◌/◌, ◌%◌, ◌^◌, eqb, get_or, ap, ◌∙◌, arith}
use Rattle.std.proofs.lemmas.Nat.{shr-shr}
use Rattle.network.specs.Rows.{bit_at, bit_of}
use Rattle.network.specs.declared.row.Function.{Function}

-- bits 2 * i and 2 * i + 1, as a number
abbrev pub pair_of : Function → ℕ → ℕ
pair_of f i = get_or f.bytes (i / 4) 0 / 2 ^ (2 * (i % 4)) % 4

-- bit b of the function's byte that has them
abbrev bit_in : Function → ℕ → ℕ → ℕ
bit_in f k b = get_or f.bytes k 0 / 2 ^ b % 2

pub pair-low : (f : Function) (i : ℕ) → bit_at (pair_of f i) 0 ≡ bit_of f (2 * i)
unfolding bit_at bit_of
pair-low f i =
    let q : ℕ = get_or f.bytes (i / 4) 0 / 2 ^ (2 * (i % 4)) in
    let byte : i / 4 ≡ 2 * i / 8 = omega arith in
    let place : 2 * (i % 4) ≡ 2 * i % 8 = omega arith in
    let e : q % 4 / 2 ^ 0 % 2 ≡ q % 2 = omega arith in
    ap (λ n. eqb n 1) (e ∙ ap (λ k. bit_in f k (2 * (i % 4))) byte ∙ ap (bit_in f (2 * i / 8)) place)

pub pair-high : (f : Function) (i : ℕ) → bit_at (pair_of f i) 1 ≡ bit_of f (2 * i + 1)
unfolding bit_at bit_of
pair-high f i =
    let b : ℕ = get_or f.bytes (i / 4) 0 in
    let q : ℕ = b / 2 ^ (2 * (i % 4)) in
    let byte : i / 4 ≡ (2 * i + 1) / 8 = omega arith in
    let place : 2 * (i % 4) + 1 ≡ (2 * i + 1) % 8 = omega arith in
    let e : q % 4 / 2 ^ 1 % 2 ≡ q / 2 ^ 1 % 2 = omega arith in
    ap (λ n. eqb n 1)
    (e ∙ ap (λ n. n % 2) (shr-shr b (2 * (i % 4)) 1) ∙ ap (λ k. bit_in f k (2 * (i % 4) + 1)) byte ∙ ap (bit_in f ((2 * i + 1) / 8)) place)
