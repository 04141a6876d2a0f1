use Rattle.std.proofs.Common.{◌+◌, Bool, sym, subst, arith}
use Rattle.network.specs.Parts.{net_of}
use Rattle.window.specs.Sets.{has}
use Rattle.window.specs.declared.set.SignalSet.{SignalSet}
use Rattle.window.proofs.NodeMarks.{PartWay, one-passed, one-failed}
use Rattle.window.proofs.nodes.with_nodes.Goals as goal
use Rattle.window.proofs.nodes.with_nodes.Goals.{then-test, else-test}

pub loop-n-preserved : goal.loop-n-preserved
loop-n-preserved g c =
    let net = net_of c.args.network.now in
    let over = λ (a : SignalSet). PartWay net (goal.F-post g c.args.test) (has c.args.marks) (has a) (c.loop-n.n + 1) in
    let answer = λ (b : Bool). goal.F-post g c.args.test c.loop-n.n b in
    elim c.if-test.branch [
      | then-test w ↦ subst over (sym w.wider-is) (one-passed net _ _ _ _ c.loop-n.n w.node_signal.result.0 c.loop-n.invariant (subst answer w.if-test.true c.test.ensures) w.node_signal.ensures.value w.insert.ensures)
      | else-test w ↦ subst over (sym w.wider-is) (one-failed net _ _ _ c.loop-n.n c.loop-n.invariant (subst answer w.if-test.false c.test.ensures))
    ]

pub returns-clause-nodes : goal.returns-clause-nodes
returns-clause-nodes g c = λ n l. c.loop-n.invariant.passed n (omega (arith, c.node_count-n-end.ensures.value))
