use Rattle.std.proofs.Common.{arith}
use Rattle.network.specs.Parts.{net_of}
use Rattle.network.proofs.Nets.{legal-net}
use Rattle.window.specs.Sets.{has}
use Rattle.window.specs.Numbers.{new_at}
use Rattle.window.proofs.Numbers.{leaf-below, leaf-rising, numbers-from}
use Rattle.window.proofs.renumber.Renumbering.new.Goals as goal

pub of_leaves-numbers-requires-clause-small : goal.of_leaves-numbers-requires-clause-small
of_leaves-numbers-requires-clause-small c = λ i l.
    let legal = legal-net c.args.region.now.network.now in
    let a = legal.few_inputs in
    let b = legal.few_nodes in
    omega (arith, leaf-below (net_of c.args.region.now.network.now) (has c.args.region.now.members) c.args.leaves.now c.requires.leaves i l)

pub of_leaves-numbers-requires-clause-rising : goal.of_leaves-numbers-requires-clause-rising
of_leaves-numbers-requires-clause-rising c = leaf-rising (net_of c.args.region.now.network.now) (has c.args.region.now.members) c.args.leaves.now c.requires.leaves

pub returns : goal.returns
returns c =
    numbers-from (net_of c.args.region.now.network.now) (has c.args.region.now.members) c.args.leaves.now (new_at c.of_leaves-numbers.result) (new_at c.add_members.new.self) c.requires.leaves
    c.of_leaves-numbers.ensures (λ s _ h. c.add_members.ensures.members s h) c.add_members.ensures.others
