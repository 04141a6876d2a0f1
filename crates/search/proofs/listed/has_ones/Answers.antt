use Rattle.std.proofs.Common.{◌∙◌, not, eqb, arith, rules, tests}
use Rattle.std.proofs.lemmas.Iterator.{YieldsList-from_slice}
use Rattle.std.proofs.lemmas.Iterator.Search.{any_from_yields_List}
use Rattle.search.proofs.Lists.{ones-any}
use Rattle.search.proofs.listed.has_ones.Goals as goal

pub returns : goal.returns
returns c =
    let bs = c.args.bytes.now in
    any_from_yields_List (λ b. not (eqb b 0)) _ _ c.any.result c.any.ensures.ran (YieldsList-from_slice bs c.iter.ensures.rest) (λ x b q k. search (rules, tests))
    ∙ ones-any bs (λ k. omega (arith, c.type_inv.bytes k))
