use Rattle.std.proofs.Common.{◌≡◌, ℕ, ◌+◌, ◌*◌, ap, ◌∙◌, arith}
use Rattle.network.specs.Rows.{bit_at, bit_of}
use Rattle.logic.proofs.Places.{put}
use Rattle.logic.proofs.fold.put_pairs.Goals as goal

pub loop-i-preserved : goal.loop-i-preserved
loop-i-preserved g c at held =
    let f = c.args.function.now in
    let i : ℕ = c.loop-i.i in
    let k : ℕ = c.bit_pair.result in
    let pair = c.bit_pair.ensures in
    let v = c.index-picks-bit_pair.result in
    let value : v ≡ at (bit_of f (2 * i + 1)) (bit_of f (2 * i)) =
    c.index-picks-bit_pair.is ∙ held k v pair.small ∙ ap (λ b. at b (bit_at k 0)) pair.high ∙ ap (at (bit_of f (2 * i + 1))) pair.low in
    put c.loop-i.fold i v (λ j. at (bit_of f (2 * j + 1)) (bit_of f (2 * j))) (omega arith) (c.loop-i.invariant at held) value

pub returns : goal.returns
returns g c at held i d h = c.loop-i.invariant at held i d (omega arith)
