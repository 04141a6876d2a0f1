use Rattle.std.proofs.Common.{◌≡◌, ℕ, ◌+◌, ◌<◌, Bool}
use Rattle.network.specs.Nets.{size}
use Rattle.network.specs.Parts.{net_of}
use Rattle.logic.specs.Walks.{turn_of, Passed}
use Rattle.logic.proofs.walk.walk_wanted.Given as goal

-- n nodes are passed
abbrev pub invariant-loop-n : goal.invariant-loop-n
invariant-loop-n g l =
    (is : ℕ → Bool) → ((s : ℕ) (b : Bool) → s < size (net_of l.network) → goal.W-post g l.wanted s b → b ≡ is s) →
    Passed g.L.Logic.picks g.L.Logic.constants (turn_of l.turn) (net_of l.network) l.first (l.first + l.n) is l.initial.values l.values
