use Rattle.std.proofs.Common.{◌≤◌, ◌||◌, length, ap, ◌∙◌, arith}
use Rattle.std.proofs.lemmas.List.{length-take}
use Rattle.window.specs.Lists.{listed}
use Rattle.window.specs.Sets.{has}
use Rattle.window.proofs.Used.{listed-used}
use Rattle.window.proofs.set.SignalSet.insert_fanins.Goals as goal

pub returns : goal.returns
returns c = λ s.
    let few : c.args.row.now.count ≤ length c.args.row.now.fanins =
    omega (arith, c.used.ensures.count c.requires.few, ap length c.used.ensures.value, length-take c.args.row.now.count c.args.row.now.fanins) in
    c.insert_all.ensures s ∙ ap (λ xs. has c.args.self.now s || listed xs s) c.used.ensures.value ∙ ap (λ b. has c.args.self.now s || b) (listed-used c.args.row.now s few)
