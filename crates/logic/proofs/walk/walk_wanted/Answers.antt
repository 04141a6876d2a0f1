use Rattle.std.proofs.Common.{◌≡◌, ℕ, ◌+◌, ◌-◌, ◌<◌, ◌≤◌, List, length, get_or, take, drop, set, sym, ap, ◌∙◌, subst, arith}
use mathlib.Core.Path.{subst⁻¹}
use Rattle.std.proofs.lemmas.List.{length-take-le, length-drop, get_or-take, get_or-drop}
use Rattle.network.specs.Rows.{blank}
use Rattle.network.specs.Nets.{Net, nodes, size, row_at}
use Rattle.network.specs.Parts.{net_of}
use Rattle.network.specs.declared.row.Row.{Row}
use Rattle.theory.specs.Values.{turns}
use Rattle.theory.proofs.Values.{lowers}
use Rattle.logic.specs.Folds.{node_of, turned_of}
use Rattle.logic.specs.Walks.{turn_of, node_step, Passed}
use Rattle.logic.proofs.Passes.{passed_none, passed-skip, passed-make}
use Rattle.logic.proofs.walk.walk_wanted.Goals as goal
use Rattle.logic.proofs.walk.walk_wanted.Goals.{then-wanted, else-wanted}

-- the rows from row f on
rest-row : (rows ns : List Row) (f n : ℕ) → rows ≡ ns → n < length rows - f → get_or (take (length rows - f) (drop f rows)) n blank ≡ get_or ns (f + n) blank
rest-row rows ns f n e h = get_or-take (length rows - f) (drop f rows) n blank h ∙ get_or-drop f rows n blank ∙ ap (λ (rs : List Row). get_or rs (f + n) blank) e

rest-long : (rows : List Row) (f : ℕ) → length (take (length rows - f) (drop f rows)) ≡ length rows - f
rest-long rows f = length-take-le (length rows - f) (drop f rows) (omega (arith, length-drop f rows))

pub loop-n-init : goal.loop-n-init
loop-n-init g c is post =
    let net : Net = net_of c.args.network.now in
    let z : c.args.first ≡ c.args.first + 0 = omega arith in
    subst (λ (m : ℕ). Passed g.L.Logic.picks g.L.Logic.constants (turn_of c.args.turn) net c.args.first m is c.args.values.now c.args.values.now) z
    (passed_none g.L.Logic.picks g.L.Logic.constants (turn_of c.args.turn) net c.args.first is c.args.values.now)

pub loop-n-preserved : goal.loop-n-preserved
loop-n-preserved g c is post =
    let V = g.row.L-Value.Denot in
    let p = g.L.Logic.picks in
    let of = g.L.Logic.constants in
    let net : Net = net_of c.args.network.now in
    let turn = turn_of c.args.turn in
    let rows = c.rows.result.now in
    let f : ℕ = c.args.first in
    let m : ℕ = f + c.loop-n.n in
    let es : List V = c.args.values.now in
    let vs : List V = c.loop-n.values in
    let low = lowers c.rows.ensures.legal in
    let inv : Passed p of turn net f m is es vs = c.loop-n.invariant is post in
    let same : length rows ≡ nodes net = ap length c.rows.ensures.value in
    let inner : c.loop-n.n < length rows - f = omega (arith, rest-long rows f) in
    let up : f ≤ m = omega arith in
    let lt : m < nodes net = omega arith in
    let room : size net ≤ length vs = omega arith in
    let there : c.inputs.result + f + c.loop-n.n ≡ net.inputs + m = omega (arith, c.inputs.ensures) in
    let told : c.wanted.result ≡ is (net.inputs + m) = post (c.inputs.result + f + c.loop-n.n) c.wanted.result (omega arith) c.wanted.ensures ∙ ap is there in
    let z : f + (c.loop-n.n + 1) ≡ m + 1 = omega arith in
    subst⁻¹ (λ (k : ℕ). Passed p of turn net f k is es c.if-wanted.values) z
    (elim c.if-wanted.branch [
      | then-wanted w ↦
          let v : V = w.turned.result in
          let value : (d : V) → v ≡ node_step p of turn (net.inputs + m) (row_at net m) (λ s. get_or vs s d) =
          λ d. w.turned.ensures ∙ ap (λ k. turned_of p of (turns turn k) w.node_value-v.result) there ∙
          ap (turned_of p of (turns turn (net.inputs + m))) (w.node_value-v.ensures d ∙ ap (λ r. node_of p of r (λ s. get_or vs s d)) (rest-row rows net.rows f c.loop-n.n c.rows.ensures.value inner)) in
          subst⁻¹ (λ (ws : List V). Passed p of turn net f (m + 1) is es ws) (w.values-is ∙ ap (λ k. set vs k v) there)
          (passed-make p of turn net f is es low vs m v up lt room (sym told ∙ w.if-wanted.true) value inv)
      | else-wanted w ↦
          subst⁻¹ (λ (ws : List V). Passed p of turn net f (m + 1) is es ws) w.values-is (passed-skip p of turn net f is es vs m (sym told ∙ w.if-wanted.false) inv)
    ])

pub returns : goal.returns
returns g c is post =
    let net : Net = net_of c.args.network.now in
    let rows = c.rows.result.now in
    let f : ℕ = c.args.first in
    let same : length rows ≡ nodes net = ap length c.rows.ensures.value in
    let all : f + c.loop-n.n ≡ nodes net = omega (arith, rest-long rows f) in
    subst (λ (m : ℕ). Passed g.L.Logic.picks g.L.Logic.constants (turn_of c.args.turn) net f m is c.args.values.now c.loop-n.values) all (c.loop-n.invariant is post)
