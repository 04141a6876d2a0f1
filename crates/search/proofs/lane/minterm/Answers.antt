use Rattle.std.proofs.Common.{◌≡◌, ◌<◌, length, get_or, sym, ap, ◌∙◌, arith, rules, tests}
use Rattle.std.proofs.lemmas.List.{get_or_default}
use Rattle.network.specs.Rows.{fanin, no_signal}
use Rattle.network.specs.declared.row.Signal.{Signal}
use Rattle.theory.specs.Values.{number, reads}
use Rattle.search.proofs.lane.minterm.Goals as goal

pub returns : goal.returns
unfolding reads
returns g c a all =
    let row = c.args.row.now in
    let many : length c.used.result.now ≡ row.count = c.used.ensures.count c.requires.few in
    let value = c.number_of.ensures.value (λ i. a (fanin row i) c.args.lane) (λ k r b item post.
    let lt : k < row.count = omega (arith, item.0, many) in
    let e : r.now.0 ≡ fanin row k = ap (λ (s : Signal). s.0) (sym item.1 ∙ get_or_default c.used.result.now k r.now no_signal item.0) ∙ c.used.ensures.fanin k item.0 in
    let h : (d : g.row.E-Value.Denot) → g.E.Logic.admits (get_or c.args.values.now r.now.0 d) (a (fanin row k)) = λ d. rw e (all k d lt) in
    search (rules, tests)) ∙ ap (number (λ i. a (fanin row i) c.args.lane)) many in
    omega (arith, value)
