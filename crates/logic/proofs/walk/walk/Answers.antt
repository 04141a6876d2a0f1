use Rattle.std.proofs.Common.{◌≡◌, ◌≤◌, true, List, length, take, refl, ap, ◌∙◌, arith, rules}
use mathlib.Core.Path.{subst⁻¹}
use Rattle.network.specs.Nets.{Net, nodes, size}
use Rattle.network.specs.Parts.{net_of}
use Rattle.network.proofs.Nets.{legal-net}
use Rattle.theory.proofs.Values.{lowers}
use Rattle.logic.specs.Lanes.{Admit}
use Rattle.logic.specs.Walks.{turn_of, walked_into, signal_row, Passed}
use Rattle.logic.proofs.Walks.{leaves-long, over-leaves, over-sound, admit-front}
use Rattle.logic.proofs.Wheres.{passed_at, all_at}
use Rattle.logic.proofs.walk.walk.Goals as goal

pub returns : goal.returns
returns g c =
    let V = g.row.L-Value.Denot in
    let law = g.met.L.Logic in
    let p = g.L.Logic.picks in
    let of = g.L.Logic.constants in
    let net : Net = net_of c.args.network.now in
    let turn = turn_of c.args.turn in
    let es = c.args.values.now in
    let vs = c.walk_wanted.new.values in
    let low = lowers (legal-net c.args.network.now) in
    let leaves : List V = take net.inputs es in
    let long = leaves-long net es c.requires.room in
    let passed : Passed p of turn net 0 (nodes net) (λ s. true) es vs = c.walk_wanted.ensures (λ s. true) (λ s b h q. search rules) in
    let room : size net ≤ length vs = omega arith in
    let is : vs ≡ walked_into p of turn net es es =
    all_at p of turn net low leaves long vs es room (λ s h. passed_at p of turn net low leaves long (λ s. true) es vs (λ n i l b q. refl) refl passed s h refl) passed.behind in
    record {
      values = is;
      leaves = ap (take net.inputs) is ∙ over-leaves p of turn net low leaves long es;
      admits = λ rows all.
          subst⁻¹ (λ (ws : List V). Admit g.L.Logic.admits ws (size net) (signal_row turn net rows)) is
          (over-sound g.L.Logic.admits p of law.steady law.sound turn net low leaves es rows long (admit-front g.L.Logic.admits es net.inputs rows all));
    }
