use Rattle.std.proofs.Common.{◌≡◌, ℕ, ◌+◌, ◌<◌, Bool, true, sym, ap, ◌∙◌, arith}
use mathlib.Core.Path.{subst⁻¹}
use Rattle.network.specs.Nets.{Net, size, with_output}
use Rattle.network.specs.Parts.{net_of}
use Rattle.network.specs.declared.row.Signal.{Signal}
use Rattle.network.proofs.Nets.{legal-net}
use Rattle.context.specs.Windows.{is_root}
use Rattle.context.specs.Extracts.{signal_of}
use Rattle.window.specs.Sets.{has}
use Rattle.window.specs.Numbers.{new_at}
use Rattle.window.specs.Parts.{roots_to}
use Rattle.window.proofs.Ready.{ready-of}
use Rattle.window.proofs.Copies.{roots-none, roots-more, roots-same, roots-all, root-new, root-small}
use Rattle.window.proofs.numbered.Numbered.append_roots.Goals as goal
use Rattle.window.proofs.numbered.Numbered.append_roots.Goals.{then-has+in_ok-append_output, else-has}

pub loop-s-init : goal.loop-s-init
loop-s-init c = c.requires ∙ roots-none (net_of c.args.self.now.region.network.now) (has c.args.self.now.region.members) c.args.self.now.region.node (legal-net c.args.self.now.region.network.now) (ready-of c.args.self.now)

pub append_output-requires : goal.append_output-requires
append_output-requires c =
    let net = net_of c.args.self.now.region.network.now in
    let m : ℕ → Bool = has c.args.self.now.region.members in
    let s : ℕ = c.loop-s.s in
    let t : ℕ = c.args.self.now.region.node in
    let legal = legal-net c.args.self.now.region.network.now in
    let l : s < size net = omega (arith, c.signals-s-end.ensures) in
    let y : is_root net m (net.inputs + t) s ≡ true = sym (c.roots-roots.ensures s l) ∙ sym c.has.ensures ∙ c.if-has.true in
    let n = root-new net m t legal (ready-of c.args.self.now) (new_at c.args.self.now.numbers) c.args.self.now.numbered s l y in
    let q = root-small net m t legal (ready-of c.args.self.now) s s l y in
    let e : c.of.result.0 ≡ new_at c.args.self.now.numbers s = ap (λ (x : Signal). x.0) c.of.ensures in
    subst⁻¹ (λ (w : Net). c.of.result.0 < size w) c.loop-s.invariant (omega arith)

pub loop-s-preserved : goal.loop-s-preserved
loop-s-preserved c =
    let net = net_of c.args.self.now.region.network.now in
    let m : ℕ → Bool = has c.args.self.now.region.members in
    let s : ℕ = c.loop-s.s in
    let t : ℕ = c.args.self.now.region.node in
    let legal = legal-net c.args.self.now.region.network.now in
    let l : s < size net = omega (arith, c.signals-s-end.ensures) in
    let here : is_root net m (net.inputs + t) s ≡ c.has.result = sym (c.roots-roots.ensures s l) ∙ sym c.has.ensures in
    elim c.if-has.branch [
      | then-has+in_ok-append_output w ↦
          let y : is_root net m (net.inputs + t) s ≡ true = here ∙ w.if-has.true in
          let n = root-new net m t legal (ready-of c.args.self.now) (new_at c.args.self.now.numbers) c.args.self.now.numbered s l y in
          ap net_of w.out-is ∙ w.in_ok-append_output.ensures ∙ ap (λ (v : Net). with_output v w.of.result) c.loop-s.invariant
          ∙ ap (with_output (roots_to net m t s)) (w.of.ensures ∙ ap signal_of n) ∙ roots-more net m t legal (ready-of c.args.self.now) s y
      | else-has w ↦ ap net_of w.out-is ∙ c.loop-s.invariant ∙ roots-same net m t legal (ready-of c.args.self.now) s (here ∙ w.if-has.false)
    ]

pub returns : goal.returns
returns c =
    let net = net_of c.args.self.now.region.network.now in
    let m : ℕ → Bool = has c.args.self.now.region.members in
    let e : c.loop-s.s ≡ size net = omega (arith, c.signals-s-end.ensures) in
    c.loop-s.invariant ∙ ap (roots_to net m c.args.self.now.region.node) e ∙ roots-all net m c.args.self.now.region.node (legal-net c.args.self.now.region.network.now) (ready-of c.args.self.now)
