use Rattle.context.proofs.Care.{care-shown}
use Rattle.context.proofs.Dull.{dull-found, dull-settled, dull-longer, listed-within, listed-whole, listed-count}
use Rattle.context.proofs.dull_stands.Goals as goal

pub returns : goal.returns
returns c = record { shown = care-shown; found = dull-found; settled = dull-settled; longer = dull-longer; most = listed-within; all = λ net t listed sound dull. (listed-whole net t listed sound dull, listed-count net t listed sound dull) }
