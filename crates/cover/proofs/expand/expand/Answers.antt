use Rattle.std.proofs.Common.{◌≡◌, sym, ◌∙◌}
use Rattle.std.specs.List.{range_with_len}
use Rattle.cover.specs.Tables.{members}
use Rattle.cover.specs.Covers.{touches, expanded}
use Rattle.cover.proofs.Listed.{meets-touches}
use Rattle.cover.proofs.Expansion.{expand-gone, expand-kept}
use Rattle.cover.proofs.expand.expand.Goals as goal
use Rattle.cover.proofs.expand.expand.Goals.{then-not-meets, else-not-meets}

pub loop-i-preserved : goal.loop-i-preserved
loop-i-preserved c =
    let off = members c.args.off.now in
    let whole = expanded off (range_with_len 0 c.count-i-end.result) c.of_minterm-cube.result in
    let t : c.meets.result ≡ touches off c.strike-larger.result = meets-touches c.args.off.now c.strike-larger.result c.meets.result c.meets.ensures in
    elim c.if-not-meets.branch [
      | then-not-meets w ↦ expand-gone off c.loop-i.i c.count-i-end.result c.loop-i.cube c.strike-larger.result c.if-not-meets.cube whole c.loop-i-test.true c.loop-i.invariant c.strike-larger.ensures (sym t ∙ w.if-not-meets.true) w.cube-is
      | else-not-meets w ↦ expand-kept off c.loop-i.i c.count-i-end.result c.loop-i.cube c.strike-larger.result c.if-not-meets.cube whole c.loop-i-test.true c.loop-i.invariant c.strike-larger.ensures (sym t ∙ w.if-not-meets.false) w.cube-is
    ]
