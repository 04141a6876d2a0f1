use Rattle.std.proofs.Common.{◌≡◌, ℕ, ◌+◌, ◌<◌, Bool, true, List, length, get_or, sym, ap, ◌∙◌, arith}
use mathlib.Core.Path.{subst⁻¹}
use Rattle.network.specs.Limits.{max_nodes}
use Rattle.network.specs.Rows.{blank, Legal}
use Rattle.network.specs.Nets.{Net, nodes, size, row_at, with_row}
use Rattle.network.specs.Parts.{net_of}
use Rattle.network.specs.declared.row.Row.{Row}
use Rattle.network.proofs.Nets.{legal-net}
use Rattle.context.specs.Extracts.{new_of, renumber}
use Rattle.window.specs.Sets.{has}
use Rattle.window.specs.Numbers.{new_at}
use Rattle.window.specs.Parts.{rows_to}
use Rattle.window.proofs.Ready.{ready-of}
use Rattle.window.proofs.Copies.{rows_none, rows_more, rows_same, row_room, row-legal, row_same}
use Rattle.window.proofs.numbered.Numbered.append_members.Goals as goal
use Rattle.window.proofs.numbered.Numbered.append_members.Goals.{then-has+in_ok-append_row, else-has}

pub loop-n-init : goal.loop-n-init
loop-n-init c = c.requires ∙ rows_none (net_of c.args.self.now.region.network.now) (has c.args.self.now.region.members) c.args.self.now.region.above

pub row-requires : goal.row-requires
row-requires c =
    let net = net_of c.args.self.now.region.network.now in
    let n : ℕ = c.loop-n.n in
    let l : n < nodes net = omega (arith, ap length c.rows-row-items.ensures.value) in
    (net.inputs + n, subst⁻¹ (λ (rs : List Row). Legal (net.inputs + n) (get_or rs n blank)) c.rows-row-items.ensures.value ((legal-net c.args.self.now.region.network.now).row n l))

pub append_row-requires : goal.append_row-requires
append_row-requires c =
    let net = net_of c.args.self.now.region.network.now in
    let m : ℕ → Bool = has c.args.self.now.region.members in
    let n : ℕ = c.loop-n.n in
    let t : ℕ = c.args.self.now.region.node in
    let legal = legal-net c.args.self.now.region.network.now in
    let l : n < nodes net = omega (arith, ap length c.rows-row-items.ensures.value) in
    let y : m (net.inputs + n) ≡ true = ap m (sym c.node_signal.ensures.value) ∙ sym c.has.ensures ∙ c.if-has.true in
    let r : c.row.result ≡ renumber (new_of net m) (row_at net n) =
    c.row.ensures ∙ ap (λ (rs : List Row). renumber (new_at c.args.self.now.numbers) (get_or rs n blank)) c.rows-row-items.ensures.value ∙ row_same net m t legal (ready-of c.args.self.now) (new_at c.args.self.now.numbers) c.args.self.now.numbered n l y in
    record {
      room = subst⁻¹ (λ (w : Net). nodes w < max_nodes) c.loop-n.invariant (row_room net m t legal (ready-of c.args.self.now) n l y);
      legal = subst⁻¹ (λ (w : Net). Legal (size w) c.row.result) c.loop-n.invariant (subst⁻¹ (Legal (size (rows_to net m (net.inputs + n)))) r (row-legal net m t legal (ready-of c.args.self.now) n l y));
    }

pub loop-n-preserved : goal.loop-n-preserved
loop-n-preserved c =
    let net = net_of c.args.self.now.region.network.now in
    let m : ℕ → Bool = has c.args.self.now.region.members in
    let n : ℕ = c.loop-n.n in
    let t : ℕ = c.args.self.now.region.node in
    let legal = legal-net c.args.self.now.region.network.now in
    let l : n < nodes net = omega (arith, ap length c.rows-row-items.ensures.value) in
    let here : m (net.inputs + n) ≡ c.has.result = ap m (sym c.node_signal.ensures.value) ∙ sym c.has.ensures in
    elim c.if-has.branch [
      | then-has+in_ok-append_row w ↦
          let y : m (net.inputs + n) ≡ true = here ∙ w.if-has.true in
          let r : w.row.result ≡ renumber (new_of net m) (row_at net n) =
          w.row.ensures ∙ ap (λ (rs : List Row). renumber (new_at c.args.self.now.numbers) (get_or rs n blank)) c.rows-row-items.ensures.value ∙ row_same net m t legal (ready-of c.args.self.now) (new_at c.args.self.now.numbers) c.args.self.now.numbered n l y in
          ap net_of w.out-is ∙ w.in_ok-append_row.ensures ∙ ap (λ (v : Net). with_row v w.row.result) c.loop-n.invariant ∙ ap (with_row (rows_to net m (net.inputs + n))) r ∙ rows_more net m n y
      | else-has w ↦ ap net_of w.out-is ∙ c.loop-n.invariant ∙ rows_same net m n (here ∙ w.if-has.false)
    ]
