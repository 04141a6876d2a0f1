use Rattle.std.proofs.Common.{◌≡◌, ℕ, ◌≤◌, min, List, length, get_or, ap, ◌∙◌, arith}
use Rattle.network.specs.Limits.{max_signals}
use Rattle.network.specs.Rows.{bit_at}
use Rattle.network.specs.Nets.{Net}
use Rattle.network.specs.Parts.{net_of}
use Rattle.network.proofs.Nets.{legal-net}
use Rattle.logic.specs.Lanes.{LaneRow, Admit}
use Rattle.logic.specs.Words.{word_admits}
use Rattle.logic.proofs.Outputs.{words-given}
use Rattle.logic.proofs.evaluate.output_words.Goals as goal

pub returns : goal.returns
returns c =
    let net : Net = net_of c.args.network.now in
    let k : ℕ = net.inputs in
    let ls = c.args.leaves.now in
    let rows : ℕ → LaneRow = λ i l. bit_at (get_or ls i 0) l in
    let given : c.min-given.result ≡ min k (length ls) = c.min-given.ensures ∙ ap (λ m. min m (length ls)) c.inputs.ensures in
    let small : k ≤ max_signals = omega (arith, (legal-net c.args.network.now).few_inputs) in
    let leaves : Admit word_admits c.put_front.new.values k rows =
    λ i d h l b. ap (λ v. bit_at v l) (ap (λ (xs : List ℕ). get_or xs i d) c.put_front.ensures ∙ words-given ls k c.min-given.result max_signals i d given small h) in
    record {
      values = λ l j b few room. c.output_values.ensures.admits rows leaves j 0 few (omega (arith, room, c.output_values.ensures.count)) l b;
      rest = c.output_values.ensures.rest;
    }
