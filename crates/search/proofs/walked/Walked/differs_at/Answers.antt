use Rattle.std.proofs.Common.{◌<◌, length, ap, ◌∙◌, ap₂, arith}
use Rattle.std.proofs.lemmas.List.{get_or_default}
use mathlib.Core.Bool.{xor}
use Rattle.search.proofs.Lanes.{xor-compared}
use Rattle.search.proofs.walked.Walked.differs_at.Goals as goal

pub returns : goal.returns
returns g c d =
    let w = c.args.self.now in
    let s = c.args.signal.0 in
    let row = g.E.Exact.row in
    let first : s < length w.plain.now = omega (arith, w.first, c.requires.signal) in
    let second : s < length w.turned.now = omega (arith, w.second, c.requires.signal) in
    xor-compared c.read.result c.read-2.result
    ∙ ap₂ xor
    (c.read.ensures _ (g.met.E.Exact.own _) ∙ ap (λ v. row v c.args.lane) (get_or_default w.plain.now s c.index-self-at.result d first))
    (c.read-2.ensures _ (g.met.E.Exact.own _) ∙ ap (λ v. row v c.args.lane) (get_or_default w.turned.now s c.index-self-at-2.result d second))
