use Rattle.std.proofs.Common.{rules, ◌≡◌, ℕ, ◌+◌, Bool, ◌&&◌, ◌||◌, ap, ◌∙◌}
use Rattle.network.specs.Parts.{net_of}
use Rattle.context.specs.Levels.{whole}
use Rattle.window.specs.Sets.{has}
use Rattle.window.proofs.NodeMarks.{nodes-marked}
use Rattle.window.proofs.members.common_nodes.Goals as goal

pub returns : goal.returns
returns c =
    let net = net_of c.args.network.now in
    let q : ℕ → Bool = λ s. has c.args.a.now s && has c.args.b.now s in
    let marked = nodes-marked net (has c.empty.result) (has c.with_nodes.result) c.with_nodes.ensures.others q (λ n l.
    let w = c.with_nodes.ensures.nodes n l in
    let e : w.0 ≡ q (net.inputs + n) = search rules in
    w.2 ∙ ap (λ b. has c.empty.result (net.inputs + n) || b) e) in
    λ s. marked s ∙ ap (λ b. b || (whole net s && q s)) (c.empty.ensures s)
