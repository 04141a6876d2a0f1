use Rattle.network.specs.Parts.{net_of}
use Rattle.window.specs.Sets.{has}
use Rattle.window.proofs.NodeMarks.{PartWay}
use Rattle.window.proofs.nodes.with_nodes.Given as goal

abbrev pub invariant-loop-n : goal.invariant-loop-n
invariant-loop-n g l = PartWay (net_of l.network) (goal.F-post g l.test) (has l.fn.marks) (has l.wider) l.n
