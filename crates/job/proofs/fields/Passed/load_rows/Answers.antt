use Rattle.std.proofs.Common.{◌≡◌, ◌+◌, ◌<◌, subst, arith}
use Rattle.network.specs.Nets.{nodes}
use Rattle.network.specs.Rows.{Legal}
use Rattle.network.specs.Parts.{net_of}
use Rattle.job.specs.Checks.{inputs_of, nodes_of, offset_of, record_size, byte_at}
use Rattle.job.proofs.Passed.{Fits, passed, record-passes}
use Rattle.job.proofs.Loads.{rows_none, rows_more}
use Rattle.job.proofs.fields.Passed.load_rows.Goals as goal

pub loop-n-init : goal.loop-n-init
loop-n-init c = rows_none c.args.self.now.head.bytes.now (net_of c.args.network.now) c.requires

pub append_row-requires-clause-legal : goal.append_row-requires-clause-legal
append_row-requires-clause-legal c =
    let file = c.args.self.now in
    let bs = file.head.bytes.now in
    let n = c.loop-n.n in
    let l : c.loop-n.n < nodes_of bs = omega arith in
    let fits = (passed bs file.passed).fits n l in
    let whole : Fits bs (inputs_of bs + n) (offset_of bs n) (record_size (byte_at bs (offset_of bs n))) = subst (Fits bs (inputs_of bs + n) (offset_of bs n)) fits.long fits in
    let size : inputs_of bs + n ≡ c.loop-n.network.inputs + nodes (net_of c.loop-n.network) = omega (arith, c.loop-n.invariant.inputs, c.loop-n.invariant.count) in
    subst (λ s. Legal s c.load_row.result) size (c.load_row.ensures.legal (inputs_of bs + n) (record-passes bs _ _ _ whole))

pub loop-n-preserved : goal.loop-n-preserved
loop-n-preserved c =
    let file = c.args.self.now in
    let bs = file.head.bytes.now in
    let n = c.loop-n.n in
    let l : c.loop-n.n < nodes_of bs = omega arith in
    rows_more bs n (net_of c.loop-n.network) (net_of c.append_row.new.self) c.load_row.result file.head.bytes_fit (passed bs file.passed) l c.loop-n.invariant c.load_row.ensures c.in_ok-append_row.ensures
