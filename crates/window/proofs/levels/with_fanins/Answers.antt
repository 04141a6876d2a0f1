use Rattle.std.proofs.Common.{◌≡◌, ℕ, ◌+◌, ◌<◌, Bool, ◌&&◌, ◌||◌, sym, ap, List, length, get_or, ◌∙◌, arith}
use Rattle.network.specs.Rows.{blank}
use Rattle.network.specs.Nets.{nodes, row_at}
use Rattle.network.specs.declared.row.Row.{Row}
use Rattle.network.specs.Parts.{net_of}
use Rattle.network.proofs.Nets.{legal-net}
use Rattle.context.specs.Levels.{is_fanin}
use Rattle.window.specs.Sets.{has}
use Rattle.window.specs.declared.set.SignalSet.{SignalSet}
use Rattle.window.proofs.Marks.{any-zero, mark-next, mark-skip}
use Rattle.window.proofs.Steps.{none-feeds}
use Rattle.std.proofs.Math.Bool.{or-false}
use Rattle.window.proofs.levels.with_fanins.Goals as goal
use Rattle.window.proofs.levels.with_fanins.Goals.{then-has, else-has}

pub loop-n-init : goal.loop-n-init
loop-n-init c = λ s.
    let net = net_of c.args.network.now in
    any-zero (has c.args.set s) (λ j. has c.args.set (net.inputs + j) && is_fanin (row_at net j) s)

pub loop-n-preserved : goal.loop-n-preserved
loop-n-preserved c = λ s.
    let net = net_of c.args.network.now in
    let n : ℕ = c.loop-n.n in
    let X : ℕ → Bool = has c.args.set in
    let p : ℕ → Bool = λ j. X (net.inputs + j) && is_fanin (row_at net j) s in
    let q : Bool = is_fanin (row_at net n) s in
    let v : Bool = has c.loop-n.wider s in
    let below : n < nodes net = omega (arith, ap length c.rows-row-items.ensures.value) in
    let at : has c.loop-n.wider (net.inputs + n) ≡ X (net.inputs + n) =
    c.loop-n.invariant (net.inputs + n) ∙ ap (λ b. X (net.inputs + n) || b) (none-feeds net X n (legal-net c.args.network.now) below) ∙ or-false (X (net.inputs + n)) in
    let here : X (net.inputs + n) ≡ c.has.result = sym at ∙ ap (has c.loop-n.wider) (sym c.node_signal.ensures.value) ∙ sym c.has.ensures in
    elim c.if-has.branch [
      | then-has w ↦
          ap (λ (xs : SignalSet). has xs s) w.wider-is ∙ w.insert_fanins.ensures s ∙ ap (λ (xs : List Row). v || is_fanin (get_or xs n blank) s) c.rows-row-items.ensures.value
          ∙ mark-next v (X s) q n p (c.loop-n.invariant s) (ap (λ b. b && q) (here ∙ w.if-has.true))
      | else-has w ↦
          ap (λ (xs : SignalSet). has xs s) w.wider-is ∙ mark-skip v (X s) n p (c.loop-n.invariant s) (ap (λ b. b && q) (here ∙ w.if-has.false))
    ]
