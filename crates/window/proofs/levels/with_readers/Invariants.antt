use Rattle.std.proofs.Common.{◌≡◌, length, take}
use Rattle.std.specs.Iterator.Adapters.{rev_source, enumerate_source, enumerate_count}
use Rattle.std.specs.Slice.Iter.{iter_rest}
use Rattle.network.specs.Parts.{net_of}
use Rattle.window.specs.Sets.{has}
use Rattle.window.proofs.Readers.{ReadDown}
use Rattle.window.proofs.levels.with_readers.Given as goal

abbrev pub invariant-loop-n : goal.invariant-loop-n
invariant-loop-n l =
    let numbered = rev_source l.n-iterator in
    let rows = iter_rest (enumerate_source numbered) in
    record { count : enumerate_count numbered ≡ 0; front : rows ≡ take (length rows) (net_of l.network).rows; read : ReadDown (net_of l.network) (has l.fn.set) (length rows) (has l.wider) }
