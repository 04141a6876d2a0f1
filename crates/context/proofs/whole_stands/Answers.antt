use Rattle.context.proofs.Levels.{whole-members}
use Rattle.context.proofs.Rules.{whole-leaf, whole-place, whole-rules}
use Rattle.context.proofs.whole_stands.Goals as goal

pub returns : goal.returns
returns c = record { members = whole-members; leaf = whole-leaf; place = whole-place; rules = whole-rules }
