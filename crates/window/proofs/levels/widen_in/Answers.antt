use Rattle.std.proofs.Common.{◌≡◌, ℕ, ◌+◌, Bool, ◌&&◌, ◌||◌, sym, ap, List, get_or, ◌∙◌}
use Rattle.network.specs.Rows.{blank}
use Rattle.network.specs.Nets.{row_at}
use Rattle.network.specs.declared.row.Row.{Row}
use Rattle.network.specs.Parts.{net_of}
use Rattle.context.specs.Levels.{is_fanin}
use Rattle.window.specs.Sets.{has}
use Rattle.window.specs.declared.set.SignalSet.{SignalSet}
use Rattle.window.proofs.Marks.{any-zero, mark-next, mark-skip}
use Rattle.window.proofs.levels.widen_in.Goals as goal
use Rattle.window.proofs.levels.widen_in.Goals.{then-has, else-has}

pub loop-n-init : goal.loop-n-init
loop-n-init c = λ s.
    let net = net_of c.args.network.now in
    any-zero (has c.args.marks s) (λ j. has c.args.from.now (net.inputs + j) && is_fanin (row_at net j) s)

pub loop-n-preserved : goal.loop-n-preserved
loop-n-preserved c = λ s.
    let net = net_of c.args.network.now in
    let n : ℕ = c.loop-n.n in
    let p : ℕ → Bool = λ j. has c.args.from.now (net.inputs + j) && is_fanin (row_at net j) s in
    let q : Bool = is_fanin (row_at net n) s in
    let v : Bool = has c.loop-n.wider s in
    let e : Bool = has c.args.marks s in
    let here : has c.args.from.now (net.inputs + n) ≡ c.has.result = ap (has c.args.from.now) (sym c.node_signal.ensures.value) ∙ sym c.has.ensures in
    elim c.if-has.branch [
      | then-has w ↦
          ap (λ (xs : SignalSet). has xs s) w.wider-is ∙ w.insert_fanins.ensures s ∙ ap (λ (xs : List Row). v || is_fanin (get_or xs n blank) s) c.rows-row-items.ensures.value
          ∙ mark-next v e q n p (c.loop-n.invariant s) (ap (λ b. b && q) (here ∙ w.if-has.true))
      | else-has w ↦
          ap (λ (xs : SignalSet). has xs s) w.wider-is ∙ mark-skip v e n p (c.loop-n.invariant s) (ap (λ b. b && q) (here ∙ w.if-has.false))
    ]
