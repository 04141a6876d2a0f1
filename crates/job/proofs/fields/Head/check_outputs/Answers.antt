use Rattle.std.proofs.Common.{◌+◌, ◌*◌, ◌∙◌, arith}
use Rattle.job.specs.Checks.{inputs_of, outputs_of, nodes_of}
use Rattle.job.proofs.Verdicts.{same-signals}
use Rattle.job.proofs.fields.Head.check_outputs.Goals as goal

pub returns : goal.returns
returns c =
    let bs = c.args.self.now.bytes.now in
    c.check_signals.ensures ∙ same-signals bs _ (outputs_of bs) (c.inputs.result + c.nodes.result) (inputs_of bs + nodes_of bs) c.output_place.result (4 + 4 * nodes_of bs) c.outputs.ensures (omega arith) (omega arith)
