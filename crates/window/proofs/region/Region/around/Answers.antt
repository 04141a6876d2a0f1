use Rattle.std.proofs.Common.{◌<◌, sym, ◌∙◌, subst}
use Rattle.std.proofs.lemmas.Bool.{ltb-true}
use Rattle.network.specs.Nets.{nodes}
use Rattle.network.specs.Parts.{net_of}
use Rattle.context.specs.Windows.{Members}
use Rattle.window.specs.Sets.{has}
use Rattle.window.proofs.Functions.{same_set}
use Rattle.window.proofs.Built.{scope-members}
use Rattle.window.proofs.region.Region.around.Goals as goal

pub invariant_of-result : goal.invariant_of-result
invariant_of-result c =
    let net = net_of c.args.network.now in
    let t = c.args.node in
    let l : t < nodes net = ltb-true _ _ (sym c.is_node.ensures ∙ c.if-not-is_node.false) in
    let m : Members net (has c.members.result) t = subst (λ X. Members net X t) (sym (same_set c.members.ensures)) (scope-members net t c.args.scope l) in
    record { above = m.above; inside = m.inside; held = m.held }
