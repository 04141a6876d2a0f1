use Rattle.std.proofs.Common.{◌≡◌, ℕ, ◌-◌, min, length, get_or, take, ◌∙◌, arith}
use Rattle.std.proofs.lemmas.List.{length-take-le}
use Rattle.network.specs.Rows.{no_signal}
use Rattle.logic.proofs.Fronts.{counted_put}
use Rattle.logic.proofs.evaluate.put_values.Goals as goal

pub returns : goal.returns
returns g c d =
    let n : ℕ = min (length c.args.signals.now) (length c.args.places.now) in
    let m : ℕ = c.min-count.result in
    let whole : m - 0 ≡ n = omega arith in
    let long : length (take (m - 0) c.args.places.now) ≡ n = length-take-le (m - 0) c.args.places.now (omega arith) ∙ whole in
    let items : length c.loop-j.place-items ≡ n = omega arith in
    counted_put (λ j. get_or c.args.values.now (get_or c.args.signals.now j no_signal).0 d) n (m - 0) c.loop-j.place-items c.args.places.now whole items (λ j e h. c.loop-j.invariant d j e (omega arith))
