use Rattle.std.proofs.Common.{◌≡◌, ◌+◌, ◌*◌, ◌<◌, length, take, sym, ap, ◌∙◌, arith}
use Rattle.std.proofs.lemmas.List.{length-take-le}
use Rattle.network.specs.Rows.{no_signal}
use Rattle.job.specs.Bytes.{le16, signal_bytes}
use Rattle.job.proofs.Sizes.{length-signals}
use Rattle.job.proofs.Splices.{splice-none, splice-more}
use Rattle.job.proofs.store.put_signals.Goals as goal

pub loop-i-init : goal.loop-i-init
loop-i-init c = sym (splice-none c.args.out.now c.args.at)

pub loop-i-preserved : goal.loop-i-preserved
loop-i-preserved c =
    let xs = c.args.signals.now in
    let lt : c.loop-i.i < length xs = omega arith in
    let done : length (signal_bytes (take c.loop-i.i xs)) ≡ 2 * c.loop-i.i = length-signals (take c.loop-i.i xs) ∙ ap (λ n. 2 * n) (length-take-le c.loop-i.i xs (omega arith)) in
    splice-more (λ s. le16 s.0) xs c.loop-i.i no_signal c.args.out.now c.loop-i.out _ c.args.at (c.args.at + 2 * c.loop-i.i) lt c.loop-i.invariant (omega arith) (omega arith) c.put_word.ensures
