use Rattle.theory.proofs.Values.{lowers}
use Rattle.theory.proofs.Replace.{lower, same, inverted, either}
use Rattle.theory.proofs.replacing_stands.Goals as goal

pub returns : goal.returns
returns c = λ net t f x legal l. record { lower = lower net t f l x (lowers legal); same = same net t f l x (lowers legal); inverted = inverted net t f l x (lowers legal); either = either net t f l x }
