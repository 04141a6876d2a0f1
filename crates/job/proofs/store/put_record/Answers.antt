use Rattle.std.proofs.Common.{◌≡◌, ℕ, ◌+◌, ◌*◌, List, [], ◌∷◌, length, take, set, sym, ap, ◌∙◌, arith}
use Rattle.job.specs.Checks.{width_of}
use Rattle.job.specs.Bytes.{splice, signal_bytes}
use Rattle.job.proofs.Sizes.{length-signals}
use Rattle.job.proofs.Splices.{splice-set, splice-splice}
use Rattle.job.proofs.store.put_record.Goals as goal

pub returns : goal.returns
returns c =
    let r = c.args.row.now in
    let o = c.args.out.now in
    let at = c.args.at in
    let n = r.count in
    let signals : List ℕ = signal_bytes (take n r.fanins) in
    let table : List ℕ = take (width_of n) r.function.bytes in
    let used : length (take n r.fanins) ≡ n = sym (ap length c.used.ensures.value) ∙ c.used.ensures.count c.requires.few in
    let long : length signals ≡ 2 * n = length-signals (take n r.fanins) ∙ ap (λ k. 2 * k) used in
    let e1 : c.put_signals.new.out ≡ splice (set o at n) (at + 1) signals = c.put_signals.ensures ∙ ap (λ xs. splice (set o at n) (at + 1) (signal_bytes xs)) c.used.ensures.value in
    let e2 : c.put_bytes.new.out ≡ splice c.put_signals.new.out (at + 1 + 2 * n) table = c.put_bytes.ensures ∙ ap (λ k. splice c.put_signals.new.out (at + 1 + 2 * k) (take c.width-wide.result r.function.bytes)) c.from-count.ensures ∙ ap (λ k. splice c.put_signals.new.out (at + 1 + 2 * n) (take k r.function.bytes)) c.width-wide.ensures in
    e2 ∙ ap (λ v. splice v (at + 1 + 2 * n) table) (e1 ∙ ap (λ v. splice v (at + 1) signals) (splice-set o at n (omega arith)) ∙ splice-splice o at (at + 1) (n ∷ []) signals (omega arith) (omega arith))
    ∙ splice-splice o at (at + 1 + 2 * n) (n ∷ signals) table (omega arith) (omega arith)
