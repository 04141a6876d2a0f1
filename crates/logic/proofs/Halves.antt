-- How many values a fold has: half as many after each fanin.
use Rattle.std.proofs.Common.{◌≡◌, ℕ, ◌+◌, ◌-◌, ◌*◌, ◌%◌, ◌^◌, ◌<◌, ◌≤◌, ap, ◌∙◌, arith, pow_mono}
use Rattle.std.proofs.lemmas.Nat.{pow-add, one_shl}
use Rattle.network.specs.Limits.{max_fanins, minterms}

pub twice : (j : ℕ) → 2 ^ (j + 1) ≡ 2 ^ j + 2 ^ j
twice j = omega (arith, pow-add 2 j 1)

pub halves : (n j : ℕ) → j < n → 2 ^ (n - j) ≡ 2 ^ (n - (j + 1)) + 2 ^ (n - (j + 1))
halves n j h = let e : n - j ≡ n - (j + 1) + 1 = omega arith in ap (λ k. 2 ^ k) e ∙ twice (n - (j + 1))

-- half of the minterms of n fanins
pub record Half (n : ℕ) : Type 0 where
  pub whole : (1 * 2 ^ (n - 1)) % 2 ^ 64 ≡ 2 ^ (n - 1)
  pub pairs : 2 ^ (n - 1) + 2 ^ (n - 1) ≤ minterms

pub half : (n : ℕ) → 0 < n → n ≤ max_fanins → Half n
half n some few = record {
  whole = one_shl (n - 1) 64 (let l : n - 1 < 64 = omega arith in l);
  pairs = let e : 2 ^ (n - 0) ≡ 2 ^ (n - 1) + 2 ^ (n - 1) = halves n 0 some in
      let z : n - 0 ≡ n = omega arith in
      let m : 2 ^ n ≤ minterms = pow_mono few in
      omega (arith, e, ap (λ k. 2 ^ k) z);
}
