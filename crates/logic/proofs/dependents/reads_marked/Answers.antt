use Rattle.std.proofs.Common.{◌<◌, length, ap, ◌∙◌, arith, rules}
use Rattle.std.proofs.lemmas.Iterator.{YieldsList-from_slice}
use Rattle.std.proofs.lemmas.Iterator.Adapters.{serves_from_places}
use Rattle.std.proofs.lemmas.List.{get_or_default}
use Rattle.network.specs.Rows.{no_signal}
use Rattle.logic.proofs.dependents.reads_marked.Goals as goal

pub any-requires-clause-callable : goal.any-requires-clause-callable
any-requires-clause-callable c =
    let fs = c.args.fanins.now in
    serves_from_places (YieldsList-from_slice fs (search rules)) (λ x q k. search rules)
    (λ x k h is.
    let same = is ∙ get_or_default fs k x.now no_signal h in
    let inside : x.now.0 < length c.args.marks.now = omega (arith, ap (λ s. s.0) same, c.requires k h) in
    search rules)
