use Rattle.std.proofs.Common.{ℕ, ◌^◌, ◌<◌, ◌≤◌, None, sym, refl, ap, ◌∙◌, subst, arith}
use Rattle.network.specs.Rows.{bit_at, fanin}
use Rattle.network.specs.Nets.{Net, size, row_at}
use Rattle.network.specs.Parts.{net_of}
use Rattle.theory.specs.Values.{value}
use Rattle.theory.proofs.Values.{reads-below}
use Rattle.logic.specs.Lanes.{LaneRow}
use Rattle.logic.specs.Walks.{signal_row}
use Rattle.search.specs.Contexts.{net_in}
use Rattle.search.proofs.Contexts.{target_row, target-lower}
use Rattle.search.proofs.Lanes.{leaves-put}
use Rattle.search.proofs.single.reads_at.Goals as goal

pub returns : goal.returns
returns c =
    let x = c.args.context.now in
    let net : Net = net_in x in
    let a : ℕ = c.args.at.0 in
    let row = target_row x c.rows-rows.result.now c.target.result (c.rows-rows.ensures.value ∙ ap (λ n. (net_of n).rows) c.network-network.ensures.value) c.target.ensures.value in
    let lane : ℕ → LaneRow = λ i l. bit_at a i in
    let leaves = leaves-put a c.inputs.result net.inputs c.put_bits.new.values _ c.put_bits.ensures (c.inputs.ensures ∙ ap (λ n. (net_of n).inputs) c.network-network.ensures.value) in
    let walked = rw c.network-network.ensures.value at c.walk.ensures.admits in
    let most : size net ≤ size net = omega arith in
    let read = (rw row at c.minterm.ensures) (signal_row None net lane) (λ i d h. walked lane leaves (fanin (row_at net x.target) i) d (target-lower x (row_at net x.target) (size net) refl most i h)) in
    record { value = read; small = subst (λ n. n < 2 ^ (row_at net x.target).count) (sym read) (reads-below (row_at net x.target) (value None net (bit_at a))) }
