use Rattle.std.proofs.Common.{◌≡◌, ℕ, ◌<◌, ◌≤◌, false, min, List, length, get_or, drop, None, ap, ◌∙◌, subst, sym, arith}
use Rattle.network.specs.Rows.{no_signal}
use Rattle.network.specs.Nets.{Net, output_at}
use Rattle.network.specs.Parts.{net_of}
use Rattle.network.specs.declared.row.Signal.{Signal}
use Rattle.network.proofs.Nets.{legal-net}
use Rattle.theory.specs.Values.{output}
use Rattle.logic.proofs.Fronts.{counted-at, counted-length}
use Rattle.logic.proofs.Outputs.{put_rest}
use Rattle.logic.proofs.evaluate.output_values.Goals as goal

pub returns : goal.returns
returns g c =
    let V = g.row.L-Value.Denot in
    let net : Net = net_of c.args.network.now in
    let es = c.args.outputs.now in
    let vs = c.walk.new.values in
    let ss = c.outputs.result.now in
    let n : ℕ = min (length ss) (length es) in
    let f : V → ℕ → V = λ d j. get_or vs (get_or ss j no_signal).0 d in
    let same : ss ≡ net.outputs = c.outputs.ensures in
    let zero = g.L.Logic.constants false in
    let le : n ≤ length net.outputs = omega (arith, ap length same) in
    let long : length c.put_values.new.places ≡ length es = ap length (c.put_values.ensures zero) ∙ counted-length (f zero) n es (omega arith) in
    let put : (j : ℕ) (d : V) → j < length net.outputs → j < length es → get_or c.put_values.new.places j d ≡ get_or vs (output_at net j) d =
    λ j d few room.
    let lt : j < n = omega (arith, ap length same) in
    ap (λ (ws : List V). get_or ws j d) (c.put_values.ensures d) ∙ counted-at (f d) n es j d lt ∙ ap (λ (qs : List Signal). get_or vs (get_or qs j no_signal).0 d) same in
    record {
      walked = c.walk.ensures.values;
      values = put;
      admits = λ rows given j d few room.
          subst (λ (v : V). g.L.Logic.admits v (λ l. output None net (λ i. rows i l) j)) (sym (put j d few (omega (arith, long)))) (c.walk.ensures.admits rows given (output_at net j) d ((legal-net c.args.network.now).exit j few));
      leaves = c.walk.ensures.leaves;
      count = long;
      rest = ap (drop (length net.outputs)) (c.put_values.ensures zero) ∙ put_rest (f zero) n (length net.outputs) es le;
    }
