use Rattle.std.proofs.Common.{◌<◌, sym, ◌∙◌, arith}
use Rattle.job.specs.Checks.{node_checks, nodes_of}
use Rattle.job.proofs.Verdicts.{passed-on, upto-more, upto-stop, same-record, pair-within}
use Rattle.job.proofs.fields.Head.check_records.Goals as goal

pub check_record-requires : goal.check_record-requires
check_record-requires c =
    let bs = c.args.self.now.bytes.now in
    let l : c.loop-n.n < nodes_of bs = omega arith in
    omega (arith, pair-within bs (nodes_of bs) c.loop-n.n c.requires l)

pub returns-in_err-check_record : goal.returns-in_err-check_record
returns-in_err-check_record c =
    let bs = c.args.self.now.bytes.now in
    let l : c.loop-n.n < nodes_of bs = omega arith in
    passed-on _ c.from_residual.ensures.1 (upto-stop (node_checks bs) c.loop-n.n (nodes_of bs) _ l c.loop-n.invariant (sym (c.in_err-check_record.ensures ∙ same-record bs c.loop-n.n _ _ _ c.inputs-inputs.ensures c.offset.ensures.value c.length.ensures.value)))

pub loop-n-preserved : goal.loop-n-preserved
loop-n-preserved c =
    let bs = c.args.self.now.bytes.now in
    upto-more (node_checks bs) c.loop-n.n c.loop-n.invariant (sym (c.in_ok-check_record.ensures ∙ same-record bs c.loop-n.n _ _ _ c.inputs-inputs.ensures c.offset.ensures.value c.length.ensures.value))
