use Rattle.context.proofs.Levels.{into-exact, outof-exact, windowed-exact, windowed-members}
use Rattle.context.proofs.Replaced.{windowed-replaced}
use Rattle.context.proofs.levels_stand.Goals as goal

pub returns : goal.returns
returns c = record { into = into-exact; outof = outof-exact; window = windowed-exact; members = windowed-members; kept = λ net n f T p q s l. windowed-replaced net n f l T p q s }
