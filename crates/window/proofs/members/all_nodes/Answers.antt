use Rattle.std.proofs.Common.{rules, ◌≡◌, ◌+◌, true, ◌&&◌, ◌||◌, ap, ◌∙◌}
use Rattle.std.proofs.Math.Bool.{and-true}
use Rattle.network.specs.Parts.{net_of}
use Rattle.context.specs.Levels.{whole}
use Rattle.window.specs.Sets.{has}
use Rattle.window.proofs.NodeMarks.{nodes-marked}
use Rattle.window.proofs.members.all_nodes.Goals as goal

pub returns : goal.returns
returns c =
    let net = net_of c.args.network.now in
    let marked = nodes-marked net (has c.empty.result) (has c.with_nodes.result) c.with_nodes.ensures.others (λ _. true) (λ n l.
    let w = c.with_nodes.ensures.nodes n l in
    let e : w.0 ≡ true = search rules in
    w.2 ∙ ap (λ b. has c.empty.result (net.inputs + n) || b) e) in
    λ s. marked s ∙ ap (λ b. b || (whole net s && true)) (c.empty.ensures s) ∙ and-true (whole net s)
