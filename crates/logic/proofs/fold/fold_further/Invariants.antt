use Rattle.std.proofs.Common.{◌≡◌, ◌+◌, ◌-◌, ◌^◌, get_or}
use Rattle.logic.specs.Folds.{Holds, folded_at}
use Rattle.logic.proofs.fold.fold_further.Given as goal

-- as many fanins are folded in as are passed, and the first one before them
abbrev pub invariant-loop-fanin : goal.invariant-loop-fanin
invariant-loop-fanin g l =
    (l.size ≡ 2 ^ (l.row.count - (l.fanin-index + 1))) ×
    ((d : g.row.L-Value.Denot) → Holds l.initial.fold (2 ^ (l.row.count - 1)) (folded_at g.L.Logic.picks g.L.Logic.constants l.row (λ s. get_or l.values s d) 1) →
    Holds l.fold l.size (folded_at g.L.Logic.picks g.L.Logic.constants l.row (λ s. get_or l.values s d) (l.fanin-index + 1)))
