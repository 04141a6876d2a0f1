use Rattle.std.proofs.Common.{◌≡◌, ℕ, ◌+◌, ◌^◌, ◌<◌, Bool, cond, sym, refl, ap, ◌∙◌, arith}
use Rattle.std.proofs.lemmas.Nat.{one_shl}
use Rattle.theory.specs.Values.{number}
use Rattle.logic.proofs.Numbers.{number_step, step-below}
use Rattle.logic.proofs.number.number_of.Goals as goal
use Rattle.logic.proofs.number.number_of.Goals.{then-bit, else-bit}

pub bit-requires : goal.bit-requires
bit-requires g c = c.requires.bit c.loop-i.i _ (c.loop-i-test.true, sym c.index-items-i.is)

pub loop-i-preserved : goal.loop-i-preserved
loop-i-preserved g c =
    let i : ℕ = c.loop-i.i in
    let y : ℕ = c.loop-i.number in
    let b : Bool = c.bit.result in
    let lt : i < 64 = omega (arith, c.loop-i-test.true, c.requires.few) in
    let next : c.if-bit.number ≡ y + cond b (2 ^ i) 0 =
    elim c.if-bit.branch [
      | then-bit w ↦ w.number-is ∙ ap (λ n. y + n) (one_shl i 64 lt) ∙ sym (ap (λ v. y + cond v (2 ^ i) 0) w.if-bit.true)
      | else-bit w ↦ w.number-is ∙ (let z : y ≡ y + 0 = omega arith in z) ∙ sym (ap (λ v. y + cond v (2 ^ i) 0) w.if-bit.false)
    ] in
    (step-below i y c.if-bit.number b c.loop-i.invariant.0 next, λ x all. number_step x i y c.if-bit.number b (c.loop-i.invariant.1 x all) (all i _ b (c.loop-i-test.true, sym c.index-items-i.is) c.bit.ensures) next)

pub loop-i-init : goal.loop-i-init
unfolding number
loop-i-init g c = (omega arith, λ x all. refl)
