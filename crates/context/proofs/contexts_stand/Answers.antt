use Rattle.context.proofs.Rules.{context-rules, context-own}
use Rattle.context.proofs.contexts_stand.Goals as goal

pub returns : goal.returns
returns c = record { rules = context-rules; own = λ net member t f legal mem. context-own net member t legal mem f }
