use Rattle.std.proofs.Common.{ℕ, eqb, get_or, refl, ◌∙◌}
use Rattle.network.specs.Rows.{no_signal}
use Rattle.window.specs.Sets.{has}
use Rattle.window.proofs.Marks.{any-zero, mark-next}
use Rattle.window.proofs.set.SignalSet.insert_all.Goals as goal

pub loop-signal-init : goal.loop-signal-init
loop-signal-init c = λ s. any-zero (has c.args.self.now s) (λ m. eqb (get_or c.args.signals.now m no_signal).0 s)

pub loop-signal-preserved : goal.loop-signal-preserved
loop-signal-preserved c = λ s.
    let p = λ (m : ℕ). eqb (get_or c.args.signals.now m no_signal).0 s in
    c.insert.ensures s ∙ mark-next (has c.loop-signal.self s) (has c.args.self.now s) (p c.loop-signal.signal-index) c.loop-signal.signal-index p (c.loop-signal.invariant s) refl
