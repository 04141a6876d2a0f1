use Rattle.std.proofs.Common.{◌≡◌, ℕ, ◌+◌, ◌*◌, ◌≤◌, List, ◌∷◌, length, refl, ap, ◌∙◌, arith}
use Rattle.std.specs.List.{flat_map}
use Rattle.network.specs.Nets.{Net, nodes}
use Rattle.network.specs.Parts.{net_of}
use Rattle.network.specs.declared.row.Row.{Row}
use Rattle.network.specs.declared.row.Signal.{Signal}
use Rattle.job.specs.Bytes.{le16, signal_bytes, record_bytes, sizes, pairs_from, splice, encode}
use Rattle.job.proofs.Sizes.{length_pairs, length-signals}
use Rattle.job.proofs.Encoded.{length-encode}
use Rattle.job.proofs.Splices.{splice-four}
use Rattle.job.proofs.store.store.Goals as goal

pub put_counts-requires : goal.put_counts-requires
put_counts-requires c = omega (arith, length-encode (net_of c.args.network.now) c.rows-nodes.ensures.legal, c.requires.within)

pub put_pairs-requires : goal.put_pairs-requires
put_pairs-requires c =
    let whole = length-encode (net_of c.args.network.now) c.rows-nodes.ensures.legal in
    let rows = ap length c.rows-nodes.ensures.value in
    let outputs = ap length c.outputs-outputs.ensures in
    record { within = omega (arith, c.requires.within); few = omega (arith, c.requires.fits) }

pub put_signals-requires : goal.put_signals-requires
put_signals-requires c =
    let whole = length-encode (net_of c.args.network.now) c.rows-nodes.ensures.legal in
    let rows = ap length c.rows-nodes.ensures.value in
    let outputs = ap length c.outputs-outputs.ensures in
    omega (arith, c.requires.within)

pub put_records-requires : goal.put_records-requires
put_records-requires c =
    let whole = length-encode (net_of c.args.network.now) c.rows-nodes.ensures.legal in
    let rows = ap length c.rows-nodes.ensures.value in
    let outputs = ap length c.outputs-outputs.ensures in
    omega (arith, c.requires.within)

-- the four parts are the whole
whole : (net : Net) (rs : List Row) (os : List Signal) (i : ℕ) (o p q r s : List ℕ) → rs ≡ net.rows → os ≡ net.outputs → i ≡ net.inputs →
    p ≡ splice o 0 (i ∷ length os ∷ le16 (length rs)) → q ≡ splice p 4 (pairs_from (4 + 4 * length rs + 2 * length os) net.rows) → r ≡ splice q (4 + 4 * length rs) (signal_bytes os) →
    s ≡ splice r (4 + 4 * length rs + 2 * length os) (flat_map record_bytes net.rows) → length (encode net) ≡ 4 + 4 * nodes net + 2 * length net.outputs + sizes net.rows → length (encode net) ≤ length o → s ≡ splice o 0 (encode net)
unfolding encode
whole net rs os i o p q r s er eo ei ep eq ers es long room =
    let rows = ap length er in
    let outs = ap length eo in
    let first : 4 + 4 * length rs + 2 * length os ≡ 4 + 4 * nodes net + 2 * length net.outputs = omega arith in
    splice-four o p q r s 0 4 (4 + 4 * nodes net) (4 + 4 * nodes net + 2 * length net.outputs) _ _ _ _
    (ep ∙ ap (λ v. splice o 0 (v ∷ length os ∷ le16 (length rs))) ei ∙ ap (λ v. splice o 0 (net.inputs ∷ v ∷ le16 (length rs))) outs ∙ ap (λ v. splice o 0 (net.inputs ∷ length net.outputs ∷ le16 v)) rows)
    (eq ∙ ap (λ n. splice p 4 (pairs_from n net.rows)) first)
    (ers ∙ ap (λ n. splice q (4 + 4 * n) (signal_bytes os)) rows ∙ ap (λ v. splice q (4 + 4 * nodes net) (signal_bytes v)) eo)
    (es ∙ ap (λ n. splice r n (flat_map record_bytes net.rows)) first)
    refl (omega (arith, length_pairs (4 + 4 * nodes net + 2 * length net.outputs) net.rows)) (omega (arith, length-signals net.outputs)) (omega arith)

pub returns : goal.returns
returns c =
    let net = net_of c.args.network.now in
    whole net c.rows-nodes.result.now c.outputs-outputs.result.now c.inputs.result c.args.out.now c.put_counts.new.out c.put_pairs.new.out c.put_signals.new.out c.put_records.new.out
    c.rows-nodes.ensures.value c.outputs-outputs.ensures c.inputs.ensures c.put_counts.ensures c.put_pairs.ensures c.put_signals.ensures c.put_records.ensures (length-encode net c.rows-nodes.ensures.legal) c.requires.within
