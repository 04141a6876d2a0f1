use Rattle.theory.proofs.Values.{lowers}
use Rattle.context.proofs.Made.{extract-is, extract-only, extract-legal, extract-place, extract-target, extract-number}
use Rattle.context.proofs.Replaced.{extract-replaced}
use Rattle.context.proofs.Rules.{target-node}
use Rattle.context.proofs.extraction_stands.Goals as goal

pub returns : goal.returns
returns c = record {
  extracted = extract-is;
  only = extract-only;
  legal = extract-legal;
  node = λ net member t mem. (extract-place net member t mem, extract-number net member t mem, extract-target net member t mem);
  replacing = λ net member t f legal mem. extract-replaced net member t f (lowers legal) (target-node net member t mem) mem;
}
