use Rattle.std.proofs.Common.{◌≡◌}
use Rattle.search.specs.Contexts.{DullIn}
use Rattle.search.proofs.counting.count_up.Given as goal

abbrev pub invariant-loop-at : goal.invariant-loop-at
invariant-loop-at l = (l.single.context.now ≡ l.context) × (l.single.listed ≡ l.listed) × DullIn l.context l.listed l.from l.at
