use Rattle.theory.proofs.Values.{lowers, holds, only}
use Rattle.theory.proofs.values_stand.Goals as goal

pub returns : goal.returns
returns c = λ turn net x legal. record { agrees = holds turn net x (lowers legal); only = λ w. only turn net x w (lowers legal) }
