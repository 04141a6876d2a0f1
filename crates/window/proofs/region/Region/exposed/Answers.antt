use Rattle.std.proofs.Common.{◌≡◌, ℕ, ◌+◌, Bool, not, ◌&&◌, ◌||◌, List, ap, ◌∙◌, ap₂}
use Rattle.network.specs.Nets.{nodes, row_at}
use Rattle.network.specs.Parts.{net_of}
use Rattle.network.specs.declared.row.Signal.{Signal}
use Rattle.context.specs.Levels.{is_fanin}
use Rattle.context.proofs.Any.{any_same}
use Rattle.context.proofs.Levels.{whole-node}
use Rattle.window.specs.Sets.{has, feeds}
use Rattle.window.specs.Lists.{listed}
use Rattle.window.proofs.region.Region.exposed.Goals as goal

pub returns : goal.returns
returns c = λ s.
    let net = net_of c.args.self.now.network.now in
    let m : ℕ → Bool = has c.args.self.now.members in
    let o : ℕ → Bool = has c.others.result in
    let e : feeds net o (nodes net) s ≡ feeds net (λ s. not (m s)) (nodes net) s =
    any_same (nodes net) (λ j. o (net.inputs + j) && is_fanin (row_at net j) s) (λ j. not (m (net.inputs + j)) && is_fanin (row_at net j) s)
    (λ j l. ap (λ b. b && is_fanin (row_at net j) s) (c.others.ensures (net.inputs + j) ∙ ap (λ b. b && not (m (net.inputs + j))) (whole-node net j l))) in
    c.widen_in.ensures s ∙ ap₂ ◌||◌ (c.insert_all.ensures s ∙ ap (λ b. b || listed c.outputs.result.now s) (c.empty-outputs.ensures s) ∙ ap (λ (xs : List Signal). listed xs s) c.outputs.ensures) e
