use Rattle.std.proofs.Common.{◌∙◌, arith}
use Rattle.cover.proofs.Pruning.{fills-more}
use Rattle.cover.proofs.prune.fill_later.Goals as goal

pub loop-i-preserved : goal.loop-i-preserved
loop-i-preserved c =
    let h = c.in-Some.ensures.steps in
    let v = c.loop-i.invariant in
    record {
      count = h.0 ∙ v.count;
      fills = fills-more c.args.cubes.now c.loop-i.later c.loop-i.behind c.table.result c.union-behind.result _ _ c.in-Some.cube.now c.in-Some.i h.1.0 (omega (arith, h.1.1, v.count)) (omega (arith, c.requires, c.loop-i.auto.later))
          c.table.ensures c.union-behind.ensures v.fills;
    }
