use Rattle.std.proofs.Common.{◌≡◌, ◌∙◌, arith, rules}
use Rattle.std.specs.Prelude.{count_ones}
use Rattle.std.specs.List.{sum_by}
use Rattle.search.proofs.Lists.{ones-count}
use Rattle.search.proofs.listed.count_ones.Goals as goal

pub returns : goal.returns
returns c =
    let bs = c.args.bytes.now in
    let h : c.sum.result ≡ sum_by count_ones bs = search rules in
    let count = h ∙ ones-count bs (λ k. omega (arith, c.type_inv.bytes k)) in
    omega (arith, count)
