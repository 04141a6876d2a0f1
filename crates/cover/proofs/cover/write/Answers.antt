use Rattle.std.proofs.Common.{◌≡◌, ◌≤◌, ◌++◌, length, take, drop, sym, ap, ◌∙◌, arith}
use Rattle.std.proofs.lemmas.List.{length-take-le, length-append, length-drop, take_at}
use Rattle.cover.specs.Cubes.{literals}
use Rattle.cover.specs.Answers.{rising_cover}
use Rattle.cover.proofs.Laid.{cover-is, written}
use Rattle.cover.proofs.cover.write.Goals as goal

pub returns : goal.returns
returns c =
    let target = c.args.target.now in
    let g = c.gather-gathered.result in
    let gs = c.gather-gathered.new.list in
    let s = c.prune-stays.result in
    let ks = c.prune-stays.new.cubes in
    let cubes : take s ks ≡ rising_cover target =
    cover-is target c.on-on.result c.off.result (take g gs) (take s ks) c.on-on.ensures c.off.ensures c.gather-gathered.ensures.cubes c.prune-stays.ensures.cubes in
    let fits : s ≤ length ks = omega (arith, c.prune-stays.ensures.few, c.prune-stays.auto.cubes) in
    let long : length (ks ++ drop g gs) ≡ length c.args.places.now = simp (length-append, length-drop) (omega (arith, c.prune-stays.auto.cubes, c.gather-gathered.auto.list, length-take-le g gs)) in
    let whole = written (rising_cover target) ks (drop g gs) c.fill.new.self s (length c.args.places.now) fits cubes long (c.fill.ensures.after (λ y e. e)) in
    let number : s ≡ length (rising_cover target) = sym (length-take-le s ks fits) ∙ ap length cubes in
    record {
      cubes = number;
      literals = c.count_literals.ensures ∙ ap (λ ps. literals (take s ps)) whole ∙ ap literals (take_at (rising_cover target) _ s (sym number));
      places = whole;
    }
