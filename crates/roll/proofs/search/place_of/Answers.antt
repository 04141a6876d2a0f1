use Rattle.std.proofs.Common.{rules, arith}
use Rattle.std.proofs.lemmas.List.Sorted.{IsPartitionPoint-from_clause}
use Rattle.roll.proofs.Points.{below_first, place-from_point}
use Rattle.roll.proofs.search.place_of.Goals as goal

pub returns : goal.returns
returns g c =
    let lt = g.T.Ranked.below in
    let tr = g.met.T.Ranked.transitive in
    let x = c.args.item.now in
    let xs = c.args.entries.now in
    let p = IsPartitionPoint-from_clause (λ y. lt y x) xs c.partition_point.result c.partition_point.ensures.partitioned (below_first lt tr x xs c.requires) (λ a r f' k. search rules) in
    let place = place-from_point lt tr x xs c.partition_point.result c.requires c.partition_point.ensures.bound p in
    omega (arith, place)
