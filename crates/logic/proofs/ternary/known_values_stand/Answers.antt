use Rattle.logic.proofs.TritLaws.{walked-exact, walked-known}
use Rattle.logic.proofs.ternary.known_values_stand.Goals as goal

pub returns : goal.returns
returns c = record { exact = walked-exact; sound = walked-known }
