use Rattle.std.proofs.Common.{ℕ, ◌<◌, List, length, get_or, ap, ◌∙◌, arith}
use Rattle.std.proofs.lemmas.List.{get_or_default}
use Rattle.network.specs.Rows.{bit_at}
use Rattle.logic.specs.Limits.{word_bits}
use Rattle.logic.specs.Lanes.{LaneRow, Admit}
use Rattle.logic.specs.Words.{word_admits}
use Rattle.logic.proofs.Fronts.{over-at}
use Rattle.search.specs.Contexts.{net_in, dull_of, dull_at, dull_in}
use Rattle.search.specs.Rounds.{lane_at}
use Rattle.search.proofs.Rounds.{dull-lane, lowest-same}
use Rattle.search.proofs.round.round.Goals as goal

pub returns : goal.returns
unfolding dull_in
returns c =
    let x = c.args.context.now in
    let l = c.args.listed.now in
    let ws = c.args.words.now in
    let rows : ℕ → LaneRow = λ i lane. bit_at (get_or ws i 0) lane in
    let leaves : Admit word_admits c.put_front.new.values (net_in x).inputs rows =
    λ i d h lane b.
    let lt : i < length ws = omega (arith, c.requires.enough) in
    ap (λ v. bit_at v lane) (ap (λ (vs : List ℕ). get_or vs i d) c.put_front.ensures ∙ over-at ws _ i d lt ∙ get_or_default ws i d 0 lt) in
    lowest-same word_bits (λ lane. dull_of x l (λ i. rows i lane)) (λ lane. dull_at x l (lane_at x ws lane)) c.lowest_lane.result (dull-lane x l ws)
    ((rw (c.over.ensures.context, c.over.ensures.plain, c.over.ensures.turned) at c.lowest_lane.ensures) rows (c.walk_context.ensures.shown rows leaves))
