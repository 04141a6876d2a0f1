use Rattle.std.proofs.Common.{refl}
use mathlib.Core.Bool.{xor}
use Rattle.network.specs.Rows.{bit_at, bit_of}
use Rattle.theory.specs.Values.{number, reads, turns, built, value}
use Rattle.context.specs.Care.{any_below, count_below, care}
use Rattle.context.specs.Ranks.{chosen}
use Rattle.context.specs.Levels.{into, outof}
use Rattle.context.specs.Windows.{reach_of}
use Rattle.context.specs.Extracts.{new_of, extract_of}
use Rattle.context.proofs.cases_stand.Goals as goal

pub returns : goal.returns
unfolding xor bit_at bit_of number reads turns built value any_below count_below care chosen into outof reach_of new_of extract_of
returns c = record {
  last = refl;
  first = refl;
  then_first = refl;
  then_middle = refl;
  near = refl;
  far = refl;
  all = refl;
  near_shape = record { nodes = refl; inputs = refl; outputs = refl };
  alone_shape = record { nodes = refl; inputs = refl; outputs = refl };
}
