-- Numbers, bit by bit.
use Rattle.std.proofs.Common.{◌≡◌, ℕ, ◌+◌, ◌^◌, ◌<◌, ◌≤◌, Bool, true, false, cond, sym, ap, ◌∙◌, add-one, arith}
use Rattle.theory.specs.Values.{number}
use Rattle.theory.proofs.Numbers.{pow-twice}

-- one bit more of a number
pub number_step : (x : ℕ → Bool) (i y y' : ℕ) (b : Bool) → y ≡ number x i → b ≡ x i → y' ≡ y + cond b (2 ^ i) 0 → y' ≡ number x (i + 1)
unfolding number
number_step x i y y' b old bit new =
    new ∙ ap (λ n. n + cond b (2 ^ i) 0) old ∙ ap (λ v. number x i + cond v (2 ^ i) 0) bit ∙ sym (ap (number x) (add-one i))

pub bit-most : (b : Bool) (n : ℕ) → cond b n 0 ≤ n
bit-most true n = omega arith
bit-most false n = omega arith

-- it has one bit more
pub step-below : (i y y' : ℕ) (b : Bool) → y < 2 ^ i → y' ≡ y + cond b (2 ^ i) 0 → y' < 2 ^ (i + 1)
step-below i y y' b low new =
    let up : 2 ^ (i + 1) ≡ 2 ^ i + 2 ^ i = ap (λ n. 2 ^ n) (add-one i) ∙ pow-twice i in
    omega (arith, bit-most b (2 ^ i))
