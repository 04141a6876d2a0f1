use Rattle.std.proofs.Common.{◌≡◌, ℕ, ◌+◌, ◌<◌, Bool, ◌&&◌, ◌||◌, eqb, length, sym, refl, ap, ◌∙◌, arith}
use Rattle.network.specs.Rows.{fanin}
use Rattle.network.specs.Nets.{nodes, row_at}
use Rattle.network.specs.Parts.{net_of}
use Rattle.network.proofs.Nets.{legal-net}
use Rattle.theory.proofs.Values.{lowers}
use Rattle.context.specs.Windows.{reach_of}
use Rattle.context.proofs.Reaches.{reach-holds, reach-local}
use Rattle.window.specs.Sets.{has}
use Rattle.window.specs.Lists.{some_in}
use Rattle.window.specs.declared.set.SignalSet.{SignalSet}
use Rattle.window.proofs.Used.{some_used}
use Rattle.window.proofs.Leads.{eqb-add, led-more, led-same}
use Rattle.window.proofs.region.Region.led.Goals as goal
use Rattle.window.proofs.region.Region.led.Goals.{then-is_led, else-is_led}

pub loop-n-init : goal.loop-n-init
loop-n-init c =
    let net = net_of c.args.self.now.network.now in (
      λ s l.
          let q : s < net.inputs = omega arith in
          c.empty-led.ensures s ∙ sym ((reach-holds net (has c.args.self.now.members) (net.inputs + c.args.self.now.node) (lowers (legal-net c.args.self.now.network.now))).input s q),
      λ s _. c.empty-led.ensures s,
    )

pub loop-n-preserved : goal.loop-n-preserved
loop-n-preserved c =
    let net = net_of c.args.self.now.network.now in
    let m : ℕ → Bool = has c.args.self.now.members in
    let n : ℕ = c.loop-n.n in
    let T : ℕ = net.inputs + c.args.self.now.node in
    let a : ℕ = net.inputs + n in
    let r : ℕ → Bool = reach_of net m T in
    let v : ℕ → Bool = has c.loop-n.led in
    let low = lowers (legal-net c.args.self.now.network.now) in
    let l : n < nodes net = omega (arith, ap length c.rows-row-items.ensures.value) in
    let k : c.node_signal-signal.result.0 ≡ a = c.node_signal-signal.ensures.value in
    let z : a + 1 ≡ net.inputs + (n + 1) = omega arith in
    let t : ℕ = c.args.self.now.node in
    let here : c.is_led.result ≡ r a =
    c.is_led.ensures ∙ ap (λ b. b && (eqb n t || some_in v c.used.result.now)) (c.has.ensures ∙ ap m k)
    ∙ ap (λ b. m a && (b || some_in v c.used.result.now)) (eqb-add net.inputs n t)
    ∙ ap (λ b. m a && (eqb a T || b)) (some_used net c.rows-row-items.result.now c.used.result.now n (legal-net c.args.self.now.network.now) l c.rows-row-items.ensures.value c.used.ensures.value v)
    ∙ reach-local m T a (row_at net n) v r (λ i q. c.loop-n.invariant.0 (fanin (row_at net n) i) (low n l i q))
    ∙ sym ((reach-holds net m T low).node n l) in
    elim c.if-is_led.branch [
      | then-is_led w ↦
          let y = led-more v (has c.if-is_led.led) r a c.node_signal-signal.result.0 c.loop-n.invariant.0 c.loop-n.invariant.1 k (λ s. ap (λ (xs : SignalSet). has xs s) w.led-is ∙ w.insert.ensures s) (sym here ∙ w.if-is_led.true) in
          (λ s q. y.0 s (omega arith), λ s q. y.1 s (omega arith))
      | else-is_led w ↦
          let y = led-same v v r a a c.loop-n.invariant.0 c.loop-n.invariant.1 refl (sym here ∙ w.if-is_led.false) in
          (λ s q. ap (λ (xs : SignalSet). has xs s) w.led-is ∙ y.0 s (omega arith), λ s q. ap (λ (xs : SignalSet). has xs s) w.led-is ∙ y.1 s (omega arith))
    ]
