use Rattle.std.proofs.Common.{◌≡◌, ℕ, ◌+◌, ◌<◌, ◌≤◌, true, false, ◌&&◌, List, length, get_or, take, set, Some, None, refl, ap, ◌∙◌, arith, rules}
use Rattle.network.specs.Nets.{Net, nodes, size}
use Rattle.network.specs.Parts.{net_of}
use Rattle.network.proofs.Nets.{legal-net}
use Rattle.theory.proofs.Values.{lowers}
use Rattle.logic.specs.Folds.{inverse_of}
use Rattle.logic.specs.Sets.{is_in}
use Rattle.logic.specs.Walks.{over, Passed}
use Rattle.logic.proofs.Walks.{leaves-long}
use Rattle.logic.proofs.Walks as walks
use Rattle.logic.proofs.Wheres.{passed_at, where_at, where-sound}
use Rattle.logic.proofs.Turns.{passed_again, entered-behind}
use Rattle.logic.proofs.needed.walk_needed.Goals as goal

pub returns : goal.returns
returns g c =
    let V = g.row.L-Value.Denot in
    let law = g.met.L.Logic in
    let p = g.L.Logic.picks in
    let of = g.L.Logic.constants in
    let net : Net = net_of c.args.network.now in
    let low = lowers (legal-net c.args.network.now) in
    let t : ℕ = c.args.target in
    let T : ℕ = net.inputs + t in
    let needed = c.args.needed.now in
    let marks = c.args.marks.now in
    let ps : List V = c.args.plain.now in
    let es : List V = c.args.turned.now in
    let ws : List V = c.walk_wanted.new.values in
    let leaves : List V = take net.inputs ps in
    let long = leaves-long net ps c.requires.first in
    let passed : Passed p of None net 0 (nodes net) (is_in needed) ps ws = c.walk_wanted.ensures (is_in needed) (λ s b h q. search rules) in
    let first : (s : ℕ) → s < size net → is_in needed s ≡ true → get_or ws s (of false) ≡ walks.at p of None net low leaves long s =
    passed_at p of None net low leaves long (is_in needed) ps ws (λ n i l b q. c.requires.closed n i l b q) refl passed in
    let room : size net ≤ length ws = omega arith in
    let plain = where_at p of None net low leaves long needed ws room first in
    let place : c.signals.result ≡ size net = c.signals.ensures in
    let there : c.inputs.result + t ≡ T = ap (λ k. k + t) c.inputs.ensures in
    let ss : List V = c.put_inverted.new.turned in
    let entered : ss ≡ set (over (take (size net) ws) es) T (inverse_of p of (get_or ws T (of false))) =
    c.put_inverted.ensures (of false) ∙ ap (λ k. set (over (take k ws) es) (c.inputs.result + t) (inverse_of p of (get_or ws (c.inputs.result + t) (of false)))) place ∙
    ap (λ k. set (over (take (size net) ws) es) k (inverse_of p of (get_or ws k (of false)))) there in
    let vs : List V = c.walk_wanted-2.new.values in
    let again : Passed p of None net (t + 1) (nodes net) (λ s. is_in needed s && is_in marks s) ss vs = c.walk_wanted-2.ensures (λ s. is_in needed s && is_in marks s) (λ s b h q. search rules) in
    let space : size net ≤ length vs = omega arith in
    let turned = where_at p of (Some T) net low leaves long needed vs space
    (passed_again p of net low leaves long t c.requires.aimed needed marks ws es ss vs c.requires.closed c.requires.marked room first entered again) in
    record {
      plain = plain;
      turned = turned;
      admits = where-sound g.L.Logic.admits p of law.steady law.sound None net low needed ps ws c.requires.first plain;
      inverted = where-sound g.L.Logic.admits p of law.steady law.sound (Some T) net low needed ps vs c.requires.first turned;
      behind = passed.behind;
      behind_turned = again.behind ∙ entered-behind p of net low leaves long t c.requires.aimed ws es ss room entered;
    }
