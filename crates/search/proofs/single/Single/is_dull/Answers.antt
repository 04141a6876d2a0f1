use Rattle.std.proofs.Common.{ℕ, ap, ◌∙◌}
use Rattle.network.specs.Rows.{bit_at}
use Rattle.network.specs.Parts.{net_of}
use Rattle.search.specs.Contexts.{net_in, dull_at, dull_in}
use Rattle.search.proofs.Lanes.{leaves-put}
use Rattle.search.proofs.single.Single.is_dull.Goals as goal

pub returns-clause-dull : goal.returns-clause-dull
unfolding dull_at dull_in
returns-clause-dull c =
    let x = c.args.self.now.context.now in
    let a : ℕ = c.args.at.0 in
    let few = c.inputs.ensures ∙ ap (λ n. (net_of n).inputs) c.network.ensures.value in
    let leaves = leaves-put a c.inputs.result (net_in x).inputs c.put_bits.new.values _ c.put_bits.ensures few in
    (rw (c.over.ensures.context, c.over.ensures.plain, c.over.ensures.turned) at c.lane_dull.ensures) (λ i l. bit_at a i) (c.walk_context.ensures.shown _ leaves)
