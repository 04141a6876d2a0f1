use Rattle.std.proofs.Common.{◌≡◌, true, false}
use Rattle.network.specs.Rows.{bit_at}
use Rattle.logic.proofs.Places.{four}
use Rattle.logic.proofs.fold.put_picks.Goals as goal

pub returns : goal.returns
unfolding bit_at
returns g c =
    let p = g.L.Logic.picks in
    let of = g.L.Logic.constants in
    let s = c.args.s in
    let zero : c.constant-zero.result ≡ of false = c.constant-zero.ensures in
    let one : c.constant-one.result ≡ of true = c.constant-one.ensures in
    let a : c.pick.result ≡ p s (of false) (of false) = cc in
    let b : c.pick-2.result ≡ p s (of false) (of true) = cc in
    let d : c.pick-3.result ≡ p s (of true) (of false) = cc in
    let e : c.pick-4.result ≡ p s (of true) (of true) = cc in
    four c.args.picks.now c.pick.result c.pick-2.result c.pick-3.result c.pick-4.result (λ k. p s (of (bit_at k 1)) (of (bit_at k 0))) c.requires a b d e
