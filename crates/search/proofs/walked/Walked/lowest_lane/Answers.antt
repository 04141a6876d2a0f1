use Rattle.std.proofs.Common.{refl, rules, tests}
use Rattle.search.specs.Contexts.{dull_in}
use Rattle.search.proofs.Lanes.{lowest-by}
use Rattle.search.proofs.walked.Walked.lowest_lane.Goals as goal

pub returns : goal.returns
returns g c rows shown =
    rw (← c.LANES.ensures) (lowest-by _ _ _ (dull_in c.args.self.now.context.now c.args.listed.now rows) c.find.result c.find.ensures.ran (λ x b q k. search (rules, tests)) refl)
