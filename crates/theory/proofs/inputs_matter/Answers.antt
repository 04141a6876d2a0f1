use Rattle.theory.specs.Values.{number}
use Rattle.theory.proofs.Numbers.{number-below}
use Rattle.theory.proofs.Inputs.{value_same, value-number}
use Rattle.theory.proofs.inputs_matter.Goals as goal

pub returns : goal.returns
returns c = record { alone = value_same; numbered = λ net x. (number x net.inputs, number-below x net.inputs, λ turn. value-number turn net x) }
