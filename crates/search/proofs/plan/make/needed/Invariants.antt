use Rattle.std.proofs.Common.{◌≡◌, length, take}
use Rattle.std.specs.Iterator.Adapters.{rev_source, enumerate_source, enumerate_count}
use Rattle.std.specs.Slice.Iter.{iter_rest}
use Rattle.search.specs.Contexts.{net_in}
use Rattle.search.proofs.Plans.{Gathered}
use Rattle.search.proofs.plan.make.needed.Given as goal

abbrev pub invariant-loop-n : goal.invariant-loop-n
invariant-loop-n l =
    let numbered = rev_source l.n-iterator in
    let rows = iter_rest (enumerate_source numbered) in
    record { count : enumerate_count numbered ≡ 0; front : rows ≡ take (length rows) (net_in l.context).rows; gathered : Gathered (net_in l.context) l.context.target (length rows) l.set }
