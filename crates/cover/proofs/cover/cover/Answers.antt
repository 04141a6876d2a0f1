use Rattle.cover.proofs.Claims.{cover-lawful, front-lawful}
use Rattle.cover.proofs.cover.cover.Goals as goal

pub returns-then-cubes-places-clause-every : goal.returns-then-cubes-places-clause-every
returns-then-cubes-places-clause-every c = λ order t. cover-lawful c.args.target.now order t

pub returns-clause-lawful : goal.returns-clause-lawful
returns-clause-lawful c = front-lawful c.args.target.now c.write.new.places _ _ c.write.result.0 c.write.ensures.cubes c.write.ensures.places

pub returns-clause-every : goal.returns-clause-every
returns-clause-every c = λ order t. cover-lawful c.args.target.now order t
