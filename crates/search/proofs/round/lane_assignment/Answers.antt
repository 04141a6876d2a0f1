use Rattle.std.proofs.Common.{◌≡◌, ℕ, ◌<◌, get_or, sym, refl, ap, ◌∙◌, arith, rules, tests}
use Rattle.std.proofs.lemmas.List.{get_or_default, length-take-le, get_or-take}
use Rattle.network.specs.Rows.{bit_at}
use Rattle.network.specs.Parts.{net_of}
use Rattle.theory.specs.Values.{number}
use Rattle.logic.specs.Words.{word_admits}
use Rattle.search.specs.Contexts.{net_in}
use Rattle.search.specs.Rounds.{lane_at}
use Rattle.search.proofs.round.lane_assignment.Goals as goal

pub returns : goal.returns
unfolding lane_at
returns c =
    let ws = c.args.words.now in
    let n : ℕ = c.inputs.result in
    let few : n ≡ (net_in c.args.context.now).inputs = c.inputs.ensures ∙ ap (λ n. (net_of n).inputs) c.network.ensures.value in
    let count = length-take-le n ws (omega (arith, c.requires.enough)) ∙ few in
    let value = c.number_of.ensures.value (λ i. bit_at (get_or ws i 0) c.args.lane) (λ k r b item post.
    let lt : k < n = omega (arith, item.0, count) in
    let e : get_or ws k 0 ≡ r.now = get_or_default ws k 0 r.now (omega (arith, c.requires.enough)) ∙ sym (get_or-take n ws k r.now lt) ∙ item.1 in
    let h : word_admits r.now (bit_at r.now) = λ l h. refl in
    rw e (search (rules, tests))) in
    let number = value ∙ ap (number (λ i. bit_at (get_or ws i 0) c.args.lane)) count in
    let small = rw count at c.number_of.ensures.small in
    record { value = omega (arith, number); small = omega (arith, small) }
