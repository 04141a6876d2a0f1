use Rattle.std.proofs.Common.{ℕ, Bool, subst}
use Rattle.network.specs.Nets.{Net}
use Rattle.network.specs.Parts.{net_of}
use Rattle.window.specs.Sets.{has}
use Rattle.window.specs.Scopes.{member_of}
use Rattle.window.specs.Contexts.{Gathers}
use Rattle.window.proofs.Functions.{same_set}
use Rattle.window.proofs.Built.{judged}
use Rattle.window.proofs.extracted.build.judge.Goals as goal

pub returns : goal.returns
returns c =
    let net = net_of c.args.network.now in
    let r = c.in_ok-around.field-0 in
    let is = c.in_ok-around.ensures in
    let res = c.gather.result in
    judged net c.args.node c.args.scope is.inside is.low res
    (subst (λ (t : ℕ). Gathers net (member_of net c.args.node c.args.scope) t res) is.node
    (subst (λ (m : ℕ → Bool). Gathers net m r.node res) (same_set is.members)
    (subst (λ (w : Net). Gathers w (has r.members) r.node res) is.network c.gather.ensures)))
