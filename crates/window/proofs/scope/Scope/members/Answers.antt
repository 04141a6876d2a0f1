use Rattle.std.proofs.Common.{◌+◌, ◌&&◌, sym, ap, ◌∙◌}
use Rattle.network.specs.Parts.{net_of}
use Rattle.context.specs.Levels.{into, outof, whole}
use Rattle.window.specs.Scopes.{member_of}
use Rattle.window.specs.declared.scope.Scope.{Scope}
use Rattle.window.proofs.Functions.{same_set}
use Rattle.window.proofs.scope.Scope.members.Goals as goal

pub returns-in-Window : goal.returns-in-Window
returns-in-Window c = λ s.
    let net = net_of c.args.network.now in
    let p = c.in-Window.inward in
    let q = c.in-Window.outward in
    c.window.ensures s ∙ ap (λ X. whole net s && (into net (outof net X q) (p + q) s && outof net (into net X p) (p + q) s)) (same_set c.only.ensures)
    ∙ ap (λ (k : Scope). member_of net c.args.node k s) (sym c.in-Window.is)
