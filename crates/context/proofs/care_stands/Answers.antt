use Rattle.theory.proofs.Values.{lowers}
use Rattle.context.proofs.Care.{free-exact, care-below, care-replaced}
use Rattle.context.proofs.care_stands.Goals as goal

pub returns : goal.returns
returns c = record { exact = free-exact; small = care-below; own = λ net t f legal l. care-replaced net t (lowers legal) legal.exit l f }
