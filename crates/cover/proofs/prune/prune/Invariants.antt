use Rattle.cover.proofs.Pruning.{Prunes}
use Rattle.cover.proofs.prune.prune.Given as goal

abbrev pub invariant-loop-i : goal.invariant-loop-i
invariant-loop-i l = Prunes l.initial.left l.left l.initial.cubes l.cubes l.stays l.i
