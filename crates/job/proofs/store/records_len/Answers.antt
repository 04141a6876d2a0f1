use Rattle.std.proofs.Common.{◌≤◌, length, get_or, ap, sym, subst, arith}
use Rattle.network.specs.Limits.{max_fanins}
use Rattle.network.specs.Rows.{blank}
use Rattle.job.proofs.Sizes.{sizes-more, record-most}
use Rattle.job.proofs.store.records_len.Goals as goal

pub loop-row-preserved : goal.loop-row-preserved
loop-row-preserved c =
    let rs = c.rows-row-items.result.now in
    let n = c.loop-row.row-index in
    let e = c.rows-row-items.ensures.value in
    let few : (get_or rs n blank).count ≤ max_fanins = subst (λ v. (get_or v n blank).count ≤ max_fanins) (sym e) (c.rows-row-items.ensures.legal.row n (omega (arith, ap length e))).few in
    record {
      value = omega (arith, c.loop-row.invariant.value, c.record_len-len.ensures, sizes-more rs n c.loop-row-test.true);
      most = omega (arith, c.loop-row.invariant.most, c.record_len-len.ensures, record-most _ few);
    }
