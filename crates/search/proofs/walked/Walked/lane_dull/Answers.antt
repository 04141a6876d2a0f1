use Rattle.std.proofs.Common.{false, not, ◌||◌, None, sym, ap, ◌∙◌}
use Rattle.network.specs.Parts.{net_of}
use Rattle.theory.specs.Values.{minterm_at}
use Rattle.logic.specs.Walks.{signal_row}
use Rattle.search.specs.Contexts.{net_in, dull_in}
use Rattle.search.specs.Lists.{has}
use Rattle.search.proofs.Contexts.{target_row}
use Rattle.search.proofs.Lanes.{differs-shown}
use Rattle.search.proofs.walked.Walked.lane_dull.Goals as goal

pub returns-then-not-differs : goal.returns-then-not-differs
unfolding dull_in
returns-then-not-differs g c rows shown =
    let w = c.args.self.now in
    let x = w.context.now in
    let d = c.differs.ensures (g.E.Logic.constants false) ∙ differs-shown _ _ _ g.met.E.Exact.one x rows w.plain.now w.turned.now c.args.lane _ c.requires shown in
    sym (ap (λ v. not v || has c.args.listed.now (minterm_at (net_in x) x.target (λ i. rows i c.args.lane))) (sym d ∙ c.if-not-differs.true))

pub returns : goal.returns
unfolding dull_in
returns g c rows shown =
    let w = c.args.self.now in
    let x = w.context.now in
    let l = c.args.lane in
    let d = c.differs.ensures (g.E.Logic.constants false) ∙ differs-shown _ _ _ g.met.E.Exact.one x rows w.plain.now w.turned.now c.args.lane _ c.requires shown in
    let row = target_row x c.rows-rows.result.now c.target.result (c.rows-rows.ensures.value ∙ ap (λ n. (net_of n).rows) c.network.ensures.value) c.target.ensures.value in
    let m = (rw row at c.minterm.ensures) (signal_row None (net_in x) rows) shown.fanins in
    c.has.ensures ∙ ap (has c.args.listed.now) m ∙ sym (ap (λ v. not v || has c.args.listed.now (minterm_at (net_in x) x.target (λ i. rows i l))) (sym d ∙ c.if-not-differs.false))
