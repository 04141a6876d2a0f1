use Rattle.std.proofs.Common.{◌≡◌, ℕ, ◌+◌, ◌*◌, ◌<◌, ◌≤◌, List, ◌++◌, length, get_or, take, sym, ap, ◌∙◌, add-zero, arith}
use Rattle.std.proofs.lemmas.List.{append_assoc, length-append, length-take-le, take_more}
use Rattle.network.specs.Rows.{blank}
use Rattle.network.specs.Parts.{net_of}
use Rattle.network.specs.declared.row.Row.{Row}
use Rattle.job.specs.Checks.{record_size}
use Rattle.job.specs.Bytes.{le16, sizes, pairs_from, splice}
use Rattle.job.proofs.Sizes.{sizes-more, record-ends, pairs-push, length_pairs}
use Rattle.job.proofs.Splices.{splice-none, splice-splice}
use Rattle.job.proofs.store.put_pairs.Goals as goal

pub loop-n-init : goal.loop-n-init
loop-n-init c = record { written = sym (splice-none c.args.out.now 4); place = sym (add-zero c.args.first) }

pub overflow_cast-at : goal.overflow_cast-at
overflow_cast-at c = omega (arith, record-ends c.rows-row-items.result.now (net_of c.args.network.now).rows c.loop-n.n c.args.first c.loop-n.at 65535 c.rows-row-items.ensures.value c.loop-n-test.true c.loop-n.invariant.place (omega (arith, c.requires.few)))

pub overflow_add-at : goal.overflow_add-at
overflow_add-at c = omega (arith, record-ends c.rows-row-items.result.now (net_of c.args.network.now).rows c.loop-n.n c.args.first c.loop-n.at 65535 c.rows-row-items.ensures.value c.loop-n-test.true c.loop-n.invariant.place (omega (arith, c.requires.few)), c.record_len-len.ensures)

-- two words more
pair-more : (o u v w : List ℕ) (rs : List Row) (n first at len : ℕ) → n < length rs → 4 + 4 * n + 4 ≤ length o → u ≡ splice o 4 (pairs_from first (take n rs)) → at ≡ first + sizes (take n rs) → len ≡ record_size (get_or rs n blank).count →
    v ≡ splice u (4 + 4 * n) (le16 at) → w ≡ splice v (6 + 4 * n) (le16 len) → w ≡ splice o 4 (pairs_from first (take (n + 1) rs))
pair-more o u v w rs n first at len l room eu ea el ev ew =
    let ps : List ℕ = pairs_from first (take n rs) in
    let r = get_or rs n blank in
    let long : length ps ≡ 4 * n = length_pairs first (take n rs) ∙ ap (λ m. 4 * m) (length-take-le n rs (omega arith)) in
    let two : v ≡ splice o 4 (ps ++ le16 at) = ev ∙ ap (λ x. splice x (4 + 4 * n) (le16 at)) eu ∙ splice-splice o 4 (4 + 4 * n) ps (le16 at) (omega arith) (omega arith) in
    let three : w ≡ splice o 4 ((ps ++ le16 at) ++ le16 len) = ew ∙ ap (λ x. splice x (6 + 4 * n) (le16 len)) two ∙ splice-splice o 4 (6 + 4 * n) (ps ++ le16 at) (le16 len) (omega (arith, length-append ps (le16 at))) (omega arith) in
    let pairs : pairs_from first (take (n + 1) rs) ≡ ps ++ (le16 (first + sizes (take n rs)) ++ le16 (record_size r.count)) = ap (pairs_from first) (take_more rs n blank l) ∙ pairs-push first (take n rs) r in
    three ∙ ap (splice o 4) (append_assoc ps (le16 at) (le16 len) ∙ ap (λ m. ps ++ (le16 m ++ le16 len)) ea ∙ ap (λ m. ps ++ (le16 (first + sizes (take n rs)) ++ le16 m)) el ∙ sym pairs)

pub loop-n-preserved : goal.loop-n-preserved
loop-n-preserved c =
    let rs = c.rows-row-items.result.now in
    let n = c.loop-n.n in
    let l : n < length rs = c.loop-n-test.true in
    let room : 4 + 4 * n + 4 ≤ length c.args.out.now = omega (arith, c.requires.within, ap length c.rows-row-items.ensures.value) in
    record {
      written = pair-more c.args.out.now c.loop-n.out c.put_word.new.out c.put_word-in-loop-n.new.out rs n c.args.first c.loop-n.at c.record_len-len.result l room c.loop-n.invariant.written c.loop-n.invariant.place c.record_len-len.ensures c.put_word.ensures c.put_word-in-loop-n.ensures;
      place = omega (arith, c.loop-n.invariant.place, c.record_len-len.ensures, sizes-more rs n l);
    }
