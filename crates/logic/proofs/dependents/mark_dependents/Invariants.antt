use Rattle.std.proofs.Common.{◌+◌}
use Rattle.network.specs.Parts.{net_of}
use Rattle.logic.specs.Depends.{dependents}
use Rattle.logic.proofs.Fronts.{Front}
use Rattle.logic.proofs.dependents.mark_dependents.Given as goal

-- n nodes have their marks
abbrev pub invariant-loop-n : goal.invariant-loop-n
invariant-loop-n l = Front l.marks ((net_of l.network).inputs + l.n) (dependents ((net_of l.network).inputs + l.target) (net_of l.network)) l.initial.marks
