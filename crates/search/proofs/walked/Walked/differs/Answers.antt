use Rattle.std.proofs.Common.{rules, ap, ◌∙◌, tests}
use Rattle.std.proofs.lemmas.Iterator.{YieldsList-from_slice}
use Rattle.std.proofs.lemmas.Iterator.Search.{any_from_yields_List}
use Rattle.network.specs.Parts.{net_of}
use Rattle.search.specs.Lanes.{unlike}
use Rattle.search.proofs.walked.Walked.differs.Goals as goal

pub returns : goal.returns
returns g c d =
    let w = c.args.self.now in
    any_from_yields_List (unlike g.E.Exact.row w.plain.now w.turned.now c.args.lane d) _ _ c.any.result c.any.ensures.ran
    (YieldsList-from_slice _ (c.iter.ensures.rest ∙ c.outputs.ensures ∙ ap (λ n. (net_of n).outputs) c.network.ensures.value)) (λ x b q k. search (rules, tests))
