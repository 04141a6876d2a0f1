use Rattle.std.proofs.Common.{◌≡◌, ℕ, ◌+◌, ◌<◌, ◌≤◌, true, false, List, length, take, replicate, Some, None, arith}
use Rattle.std.proofs.lemmas.List.{get_or-replicate}
use Rattle.network.specs.Limits.{max_signals}
use Rattle.network.specs.Nets.{Net, size, row_at}
use Rattle.network.specs.Parts.{net_of}
use Rattle.network.specs.Rows.{fanin}
use Rattle.network.proofs.Nets.{legal-net}
use Rattle.theory.proofs.Values.{lowers}
use Rattle.logic.specs.Sets.{is_in}
use Rattle.logic.proofs.Walks.{leaves-long}
use Rattle.logic.proofs.Wheres.{all_at}
use Rattle.logic.proofs.turned.walk_both.Goals as goal

-- every signal is in the set of all
all-in : (s : ℕ) → s < max_signals → is_in (replicate max_signals true) s ≡ true
all-in s h = get_or-replicate max_signals s true false h

pub walk_needed-requires-clause-closed : goal.walk_needed-requires-clause-closed
walk_needed-requires-clause-closed g c n i h e q =
    let net : Net = net_of c.args.network.now in
    let legal = legal-net c.args.network.now in
    let low : fanin (row_at net n) i < net.inputs + n = lowers legal n h i q in
    all-in (fanin (row_at net n) i) (omega (arith, legal.few_inputs, legal.few_nodes))

pub returns : goal.returns
returns g c =
    let V = g.row.L-Value.Denot in
    let p = g.L.Logic.picks in
    let of = g.L.Logic.constants in
    let net : Net = net_of c.args.network.now in
    let legal = legal-net c.args.network.now in
    let low = lowers legal in
    let ps : List V = c.args.plain.now in
    let leaves : List V = take net.inputs ps in
    let long = leaves-long net ps c.requires.first in
    let vs : List V = c.walk_needed.new.plain in
    let ws : List V = c.walk_needed.new.turned in
    let first : size net ≤ length vs = omega arith in
    let second : size net ≤ length ws = omega arith in
    let in_all : (s : ℕ) → s < size net → is_in (replicate max_signals true) s ≡ true = λ s h. all-in s (omega (arith, legal.few_inputs, legal.few_nodes)) in
    record {
      plain = all_at p of None net low leaves long vs ps first (λ s h. c.walk_needed.ensures.plain s (of false) h (in_all s h)) c.walk_needed.ensures.behind;
      turned = all_at p of (Some (net.inputs + c.args.target)) net low leaves long ws c.args.turned.now second (λ s h. c.walk_needed.ensures.turned s (of false) h (in_all s h)) c.walk_needed.ensures.behind_turned;
      admits = λ rows all s d h. c.walk_needed.ensures.admits rows all s d h (in_all s h);
      inverted = λ rows all s d h. c.walk_needed.ensures.inverted rows all s d h (in_all s h);
    }
