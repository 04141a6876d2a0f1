use Rattle.std.proofs.Common.{rules, tests}
use Rattle.std.proofs.lemmas.Iterator.{YieldsList-from_slice}
use Rattle.std.proofs.lemmas.Iterator.Consumers.{YieldsList-from_enumerate}
use Rattle.std.proofs.lemmas.Iterator.Search.{any_from_yields_List}
use Rattle.cover.proofs.Shapes.{shared, meets-shared}
use Rattle.cover.proofs.shape.meets.Goals as goal

pub returns : goal.returns
returns c =
    meets-shared c.args.set.now c.args.cube c.any.result (search rules)
    (any_from_yields_List (shared c.args.cube) _ _ c.any.result c.any.ensures.ran (YieldsList-from_enumerate (YieldsList-from_slice c.args.set.now.bytes (cc)) (cc)) (λ x b q k. search (rules, tests)))
