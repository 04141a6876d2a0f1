use Rattle.std.proofs.Common.{◌<◌, arith}
use Rattle.network.specs.Parts.{net_of}
use Rattle.job.specs.Checks.{outputs_of}
use Rattle.job.proofs.Passed.{passed}
use Rattle.job.proofs.Loads.{outputs-none, outputs-more}
use Rattle.job.proofs.fields.Passed.load_outputs.Goals as goal

pub loop-j-init : goal.loop-j-init
loop-j-init c = outputs-none c.args.self.now.head.bytes.now (net_of c.args.network.now) c.requires

pub append_output-requires : goal.append_output-requires
append_output-requires c =
    let file = c.args.self.now in
    let bs = file.head.bytes.now in
    let l : c.loop-j.j < outputs_of bs = omega arith in
    omega (arith, c.output.ensures, (passed bs file.passed).output c.loop-j.j l, c.loop-j.invariant.inputs, c.loop-j.invariant.count)

pub loop-j-preserved : goal.loop-j-preserved
loop-j-preserved c =
    let file = c.args.self.now in
    let bs = file.head.bytes.now in
    let l : c.loop-j.j < outputs_of bs = omega arith in
    outputs-more bs c.loop-j.j (net_of c.loop-j.network) (net_of c.append_output.new.self) (record { 0 = c.output.result }) file.head.bytes_fit (passed bs file.passed) l c.loop-j.invariant c.output.ensures c.in_ok-append_output.ensures
