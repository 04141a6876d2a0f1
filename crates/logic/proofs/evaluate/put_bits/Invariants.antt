use Rattle.network.specs.Rows.{bit_at}
use Rattle.logic.specs.Folds.{Holds}
use Rattle.logic.proofs.evaluate.put_bits.Given as goal

-- i bits are put
abbrev pub invariant-loop-i : goal.invariant-loop-i
invariant-loop-i l = Holds l.value-items l.i (bit_at l.x.0)
