use Rattle.std.proofs.Common.{◌≡◌, ℕ, ◌+◌, ◌*◌, ◌<◌, ◌≤◌, get_or}
use Rattle.logic.specs.Folds.{Holds}
use Rattle.logic.proofs.fold.halve.Given as goal

-- what is done is picked, and what is not done is as it was
abbrev pub invariant-loop-i : goal.invariant-loop-i
invariant-loop-i g l =
    (at : ℕ → g.row.L-Value.Denot) → Holds l.initial.fold (l.size + l.size) at →
    Holds l.fold l.i (λ k. g.L.Logic.picks l.s (at (2 * k + 1)) (at (2 * k))) ×
    ((k : ℕ) (d : g.row.L-Value.Denot) → l.i ≤ k → k < l.size + l.size → get_or l.fold k d ≡ at k)
