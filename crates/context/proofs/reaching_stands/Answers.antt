use Rattle.theory.proofs.Values.{lowers}
use Rattle.context.proofs.Reaches.{reach-holds, reach-only, reach-exact}
use Rattle.context.proofs.reaching_stands.Goals as goal

pub returns : goal.returns
returns c = record {
  agrees = λ net member T legal. reach-holds net member T (lowers legal);
  only = λ net member T reach legal. reach-only net member T reach (lowers legal);
  paths = λ net member t s legal l. reach-exact net member t (lowers legal) l s;
}
