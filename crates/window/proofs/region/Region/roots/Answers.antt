use Rattle.std.proofs.Common.{ℕ, ◌+◌, Bool, ◌&&◌, ◌∙◌, ap₂}
use Rattle.network.specs.Parts.{net_of}
use Rattle.network.proofs.Nets.{legal-net}
use Rattle.theory.proofs.Values.{lowers}
use Rattle.context.specs.Levels.{whole}
use Rattle.context.specs.Windows.{is_exposed}
use Rattle.window.specs.Sets.{has}
use Rattle.window.proofs.Leads.{led-whole}
use Rattle.window.proofs.region.Region.roots.Goals as goal

pub returns : goal.returns
returns c = λ s l.
    let net = net_of c.args.self.now.network.now in
    let m : ℕ → Bool = has c.args.self.now.members in
    let T : ℕ = net.inputs + c.args.self.now.node in
    c.common_nodes.ensures s ∙ ap₂ (λ a b. whole net s && (a && b)) (c.led.ensures s l) (c.exposed.ensures s)
    ∙ led-whole net m T (lowers (legal-net c.args.self.now.network.now)) s (is_exposed net m s) l
