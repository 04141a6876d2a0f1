use Rattle.std.proofs.Common.{rules, ◌≡◌, ℕ, ◌-◌, ◌||◌, length, List, ap, sym, refl, ◌∙◌, arith}
use Rattle.std.specs.List.{range_with_len}
use Rattle.std.proofs.iter.Yields.{nat_range_steps}
use Rattle.std.proofs.lemmas.Fn.{fold_over}
use Rattle.std.proofs.lemmas.List.{length_push}
use Rattle.std.proofs.lemmas.List.FromFn.{length-range_with_len}
use Rattle.std.proofs.lemmas.Iterator.{YieldsList-from_range}
use Rattle.network.specs.Nets.{nodes}
use Rattle.network.specs.Parts.{net_of}
use Rattle.context.specs.Levels.{into}
use Rattle.window.specs.Sets.{has, feeds}
use Rattle.window.specs.declared.set.SignalSet.{SignalSet}
use Rattle.window.proofs.Steps.{into-none, into_more}
use Rattle.window.proofs.levels.reaching.Goals as goal

pub returns : goal.returns
returns c =
    let net = net_of c.args.network.now in
    let X = has c.args.set in
    let all : (s : ℕ) → has c.fold.result s ≡ into net X _ s =
    fold_over nat_range_steps _ _ (λ (ys : List ℕ) (a : SignalSet). (s : ℕ) → has a s ≡ into net X (length ys) s) _
    (λ ys a x b f' j k. (
      λ s.
          let e : has b s ≡ (has a s || feeds net (has a) (nodes net) s) = search rules in
          e ∙ into_more net X (length ys) (has a) j s ∙ ap (λ d. into net X d s) (sym (length_push ys x)),
      search rules,
    ))
    (record { start = 0; end = c.args.edges }) _ _ _ (YieldsList-from_range 0 c.args.edges _ refl refl).runs (into-none net X) c.fold.ensures.ran in
    let e : length (range_with_len 0 (c.args.edges - 0)) ≡ c.args.edges = omega (arith, length-range_with_len 0 (c.args.edges - 0)) in
    λ s. all s ∙ ap (λ d. into net X d s) e
