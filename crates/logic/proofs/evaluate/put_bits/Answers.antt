use Rattle.std.proofs.Common.{◌≡◌, ℕ, ◌-◌, length, take, ◌∙◌, arith}
use Rattle.std.proofs.lemmas.List.{length-take-le}
use Rattle.network.specs.Rows.{bit_at}
use Rattle.logic.proofs.Fronts.{counted_put}
use Rattle.logic.proofs.Places.{put}
use Rattle.logic.proofs.evaluate.put_bits.Goals as goal

pub loop-i-preserved : goal.loop-i-preserved
unfolding bit_at
loop-i-preserved c = put c.loop-i.value-items c.loop-i.i _ (bit_at c.args.x.0) (omega arith) c.loop-i.invariant c.bit.ensures

pub returns : goal.returns
returns c =
    let n : ℕ = c.args.count in
    let whole : n - 0 ≡ n = omega arith in
    let long : length (take (n - 0) c.args.values.now) ≡ n = length-take-le (n - 0) c.args.values.now (omega arith) ∙ whole in
    let items : length c.loop-i.value-items ≡ n = omega arith in
    counted_put (bit_at c.args.x.0) n (n - 0) c.loop-i.value-items c.args.values.now whole items (λ i d h. c.loop-i.invariant i d (omega arith))
