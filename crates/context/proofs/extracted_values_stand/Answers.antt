use Rattle.context.proofs.Rules.{extract-values, extract-turned}
use Rattle.context.proofs.extracted_values_stand.Goals as goal

pub returns : goal.returns
returns c = record { values = λ net member t x legal mem. extract-values net member t legal mem x; inverted = λ net member t u legal mem. extract-turned net member t legal mem u }
