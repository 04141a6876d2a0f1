use Rattle.std.proofs.Common.{◌≡◌}
use Rattle.network.specs.Parts.{net_of}
use Rattle.window.specs.Sets.{has}
use Rattle.window.specs.Parts.{roots_to}
use Rattle.window.proofs.numbered.Numbered.append_roots.Given as goal

abbrev pub invariant-loop-s : goal.invariant-loop-s
invariant-loop-s l = net_of l.out ≡ roots_to (net_of l.self.region.network.now) (has l.self.region.members) l.self.region.node l.s
