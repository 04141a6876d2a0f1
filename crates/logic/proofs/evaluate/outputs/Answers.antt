use Rattle.std.proofs.Common.{◌≡◌, ℕ, ◌<◌, ◌≤◌, min, Bool, List, length, get_or, None, ap, ◌∙◌, arith}
use Rattle.network.specs.Rows.{bit_at}
use Rattle.network.specs.Nets.{Net, size}
use Rattle.network.specs.Parts.{net_of}
use Rattle.network.proofs.Nets.{legal-net}
use Rattle.theory.specs.Values.{number, value, output}
use Rattle.logic.specs.Limits.{word_bits}
use Rattle.logic.specs.Lanes.{LaneRow, Admit}
use Rattle.logic.specs.Bits.{bit_admits}
use Rattle.logic.proofs.Fronts.{counted-at}
use Rattle.logic.proofs.Outputs.{gathered, inputs-only}
use Rattle.logic.proofs.evaluate.outputs.Goals as goal

pub returns : goal.returns
returns c =
    let net : Net = net_of c.args.network.now in
    let x : ℕ = c.args.x.0 in
    let n : ℕ = min (length net.outputs) word_bits in
    let rows : ℕ → LaneRow = λ i l. bit_at x i in
    let leaves : Admit bit_admits c.put_bits.new.values net.inputs rows =
    λ i d h.
    let l : i < c.inputs.result = omega arith in
    ap (λ (vs : List Bool). get_or vs i d) c.put_bits.ensures ∙ counted-at (bit_at x) c.inputs.result _ i d l in
    let values : (s : ℕ) (d : Bool) → s < size net → get_or c.walk.new.values s d ≡ value None net (bit_at x) s = c.walk.ensures.admits rows leaves in
    let le : n ≤ length net.outputs = omega arith in
    let few : min (length c.outputs.result.now) word_bits ≡ n = ap (λ ss. min (length ss) word_bits) c.outputs.ensures in
    let is : c.gather.result ≡ number (output None net (bit_at x)) n =
    c.gather.ensures ∙ ap (number _) few ∙ gathered net (bit_at x) c.walk.new.values c.outputs.result.now n (legal-net c.args.network.now) c.outputs.ensures le values in
    record { values = is; inputs = is ∙ inputs-only net x n }
