use Rattle.std.proofs.Common.{get_or}
use Rattle.network.specs.Rows.{no_signal}
use Rattle.logic.specs.Folds.{Holds}
use Rattle.logic.proofs.evaluate.put_values.Given as goal

-- j values are put
abbrev pub invariant-loop-j : goal.invariant-loop-j
invariant-loop-j g l = (d : g.row.T.Denot) → Holds l.place-items l.j (λ j. get_or l.values (get_or l.signals j no_signal).0 d)
