use Rattle.std.proofs.Common.{◌+◌, ◌*◌, Bool}
use Rattle.network.specs.Rows.{bit_at, bit_of}
use Rattle.logic.specs.Folds.{Holds}
use Rattle.logic.proofs.fold.put_pairs.Given as goal

abbrev pub invariant-loop-i : goal.invariant-loop-i
invariant-loop-i g l =
    (at : Bool → Bool → g.row.L-Value.Denot) → Holds l.picks 4 (λ k. at (bit_at k 1) (bit_at k 0)) →
    Holds l.fold l.i (λ i. at (bit_of l.function (2 * i + 1)) (bit_of l.function (2 * i)))
