use Rattle.std.proofs.Common.{◌≡◌, ℕ, ◌+◌, ◌-◌, ◌*◌, ◌/◌, ◌^◌, ◌<◌, ◌≤◌, length, get_or, take, drop, sym, ap, ◌∙◌, add-one, arith, pow_mono}
use Rattle.std.proofs.lemmas.List.{get_or_default, get_or-take, get_or-drop, length-take-le, length-drop}
use Rattle.network.specs.Rows.{fanin, no_signal}
use Rattle.network.specs.declared.row.Row.{Row}
use Rattle.logic.specs.Folds.{Holds, folded_at}
use Rattle.logic.proofs.Halves.{halves}
use Rattle.logic.proofs.fold.fold_further.Goals as goal

-- a smaller power of two
smaller : (n j : ℕ) → 2 ^ (n - (j + 1)) ≤ 2 ^ (n - 1)
smaller n j = pow_mono (let l : n - (j + 1) ≤ n - 1 = omega arith in l)

-- the fanins after the first
rest-long : (r : Row) → r.count ≤ length r.fanins → length (take (r.count - 1) (drop 1 r.fanins)) ≡ r.count - 1
rest-long r h = length-take-le (r.count - 1) (drop 1 r.fanins) (omega (arith, length-drop 1 r.fanins))

rest-at : (r : Row) (i : ℕ) → i < r.count - 1 → (get_or (take (r.count - 1) (drop 1 r.fanins)) i no_signal).0 ≡ fanin r (i + 1)
rest-at r i h =
    let z : 1 + i ≡ i + 1 = omega arith in
    ap (λ s. s.0) (get_or-take (r.count - 1) (drop 1 r.fanins) i no_signal h ∙ get_or-drop 1 r.fanins i no_signal ∙ ap (λ k. get_or r.fanins k no_signal) z)

pub halve-requires : goal.halve-requires
halve-requires g c = omega (arith, c.loop-fanin.invariant.0, smaller c.args.row.now.count c.loop-fanin.fanin-index, c.requires.room, c.loop-fanin.auto.fold)

pub loop-fanin-preserved : goal.loop-fanin-preserved
loop-fanin-preserved g c =
    let row = c.args.row.now in
    let n : ℕ = row.count in
    let i : ℕ = c.loop-fanin.fanin-index in
    let inner : i < n - 1 = omega (arith, rest-long row (omega arith)) in
    let j : ℕ = i + 1 in
    let lt : j < n = omega arith in
    let size : ℕ = c.loop-fanin.size in
    let e : 2 ^ (n - j) ≡ 2 ^ (n - (j + 1)) + 2 ^ (n - (j + 1)) = halves n j lt in
    let is : size ≡ 2 ^ (n - j) = c.loop-fanin.invariant.0 in
    let whole : size / 2 + size / 2 ≡ size = omega arith in (
      omega arith,
      λ d held k v h.
          let p = g.L.Logic.picks in
          let of = g.L.Logic.constants in
          let vs = c.args.values.now in
          let x = c.index-values-fanin.result in
          let low : fanin row j < length vs = c.requires.lower j lt in
          let read : x ≡ get_or vs (fanin row j) d = c.index-values-fanin.is ∙ ap (λ s. get_or vs s x) (rest-at row i inner) ∙ get_or_default vs (fanin row j) x d low in
          let now : ℕ → g.row.L-Value.Denot = folded_at p of row (λ s. get_or vs s d) j in
          let before : Holds c.loop-fanin.fold (size / 2 + size / 2) now = λ k w b. c.loop-fanin.invariant.1 d held k w (omega arith) in
          c.halve.ensures now before k v h ∙ ap (λ y. p y (now (2 * k + 1)) (now (2 * k))) read ∙ ap (λ m. folded_at p of row (λ s. get_or vs s d) m k) (sym (add-one j)),
    )

pub returns : goal.returns
returns g c d held =
    let p = g.L.Logic.picks in
    let of = g.L.Logic.constants in
    let row = c.args.row.now in
    let v = c.index-fold-0.result in
    let done : c.loop-fanin.fanin-index + 1 ≡ row.count = omega (arith, rest-long row (omega arith)) in
    let left : row.count - (c.loop-fanin.fanin-index + 1) ≡ 0 = omega arith in
    let one : c.loop-fanin.size ≡ 1 = c.loop-fanin.invariant.0 ∙ ap (λ k. 2 ^ k) left in
    c.index-fold-0.is ∙ c.loop-fanin.invariant.1 d held 0 v (omega (arith, one)) ∙ ap (λ k. folded_at p of row (λ s. get_or c.args.values.now s d) k 0) done
