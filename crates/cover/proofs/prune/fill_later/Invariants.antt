use Rattle.std.proofs.Common.{◌≡◌}
use Rattle.std.specs.Iterator.Adapters.{rev_source, enumerate_source, enumerate_count}
use Rattle.std.specs.Slice.Iter.{iter_rest}
use Rattle.cover.proofs.Pruning.{Fills}
use Rattle.cover.proofs.prune.fill_later.Given as goal

abbrev pub invariant-loop-i : goal.invariant-loop-i
invariant-loop-i l =
    let numbered = rev_source l.i-iterator in
    record { count : enumerate_count numbered ≡ 0; fills : Fills l.cubes l.later l.behind (iter_rest (enumerate_source numbered)) }
