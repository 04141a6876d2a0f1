use Rattle.logic.proofs.TritLaws.{three, pick_known, pick-common, pick-otherwise}
use Rattle.logic.proofs.ternary.picks_stand.Goals as goal

pub returns : goal.returns
returns c = record { three = three; known = pick_known; common = pick-common; otherwise = pick-otherwise }
