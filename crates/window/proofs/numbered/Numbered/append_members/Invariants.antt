use Rattle.std.proofs.Common.{◌≡◌, ◌+◌}
use Rattle.network.specs.Parts.{net_of}
use Rattle.window.specs.Sets.{has}
use Rattle.window.specs.Parts.{rows_to}
use Rattle.window.proofs.numbered.Numbered.append_members.Given as goal

abbrev pub invariant-loop-n : goal.invariant-loop-n
invariant-loop-n l = net_of l.out ≡ rows_to (net_of l.self.region.network.now) (has l.self.region.members) ((net_of l.self.region.network.now).inputs + l.n)
