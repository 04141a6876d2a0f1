use Rattle.std.proofs.Common.{◌≡◌, ℕ, ◌+◌, ◌-◌, ◌*◌, ◌%◌, ◌^◌, ◌<◌, Bool, length, get_or, take, ap, ◌∙◌, arith}
use Rattle.std.proofs.lemmas.List.{get_or_default, get_or_append_left, length-take-le}
use Rattle.network.specs.Rows.{bit_of, fanin}
use Rattle.logic.specs.Folds.{Holds, folded_at}
use Rattle.logic.proofs.Halves.{half}
use Rattle.logic.proofs.fold.node_value.Goals as goal

pub returns : goal.returns
returns g c d =
    let V = g.row.L-Value.Denot in
    let p = g.L.Logic.picks in
    let of = g.L.Logic.constants in
    let row = c.args.row.now in
    let f = row.function in
    let n : ℕ = row.count in
    let vs = c.args.values.now in
    let x : V = c.index-values-row.result in
    let some : 0 < n = omega arith in
    let whole : (1 * 2 ^ (n - 1)) % 2 ^ 64 ≡ 2 ^ (n - 1) = (half n some c.requires.few).whole in
    let low : fanin row 0 < length vs = c.requires.lower 0 some in
    let read : x ≡ get_or vs (fanin row 0) d = c.index-values-row.is ∙ get_or_default vs (fanin row 0) x d low in
    let at : Bool → Bool → V = λ h l. p x (of h) (of l) in
    let m : ℕ = (1 * 2 ^ (n - 1)) % 2 ^ 64 in
    let pairs = (half n some c.requires.few).pairs in
    let long : length (take (m - 0) c.split_at_mut-picks.result.1.now) ≡ 2 ^ (n - 1) = length-take-le (m - 0) c.split_at_mut-picks.result.1.now (omega (arith, whole, pairs)) ∙ (let z : m - 0 ≡ 2 ^ (n - 1) = omega (arith, whole) in z) in
    let first : Holds _ (2 ^ (n - 1)) (folded_at p of row (λ s. get_or vs s d) 1) =
    λ i w b.
    let inside : i < length c.put_pairs.new.fold = omega (arith, long) in
    get_or_append_left c.put_pairs.new.fold _ w i inside ∙ c.put_pairs.ensures at c.put_picks.ensures i w (omega (arith, long)) ∙ ap (λ y. p y (of (bit_of f (2 * i + 1))) (of (bit_of f (2 * i)))) read in
    c.fold_further.ensures d first
