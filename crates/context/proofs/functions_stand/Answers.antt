use Rattle.theory.proofs.Values.{lowers}
use Rattle.context.proofs.Care.{safe, harm, only-safe}
use Rattle.context.proofs.functions_stand.Goals as goal

pub returns : goal.returns
returns c = record { safe = λ net t f g legal l. safe net t (lowers legal) legal.exit l f g; only = λ net t f g legal l. only-safe net t (lowers legal) legal.exit l f g; harm = λ net t f g y legal l. harm net t (lowers legal) legal.exit l f g y }
