use Rattle.context.proofs.Ranks.{chosen-ascending, chosen_at, chosen-place, chosen-only}
use Rattle.context.proofs.chosen_stands.Goals as goal

pub returns : goal.returns
returns c = record { ascending = chosen-ascending; each = λ n p i l. let w = chosen_at n p i l in (w.0, w.1); every = chosen-place; only = chosen-only }
