use Rattle.std.proofs.Common.{◌+◌, ◌*◌, sym, ap, ◌∙◌, rules, nat_lt, [], ◌∷◌}
use Rattle.job.specs.declared.denial.Cause.TheVariants.{SignalRange}
use Rattle.job.specs.Checks.{check, verdict, signal_checks}
use Rattle.job.proofs.Verdicts.{passed-on, upto-more, upto-stop}
use Rattle.job.proofs.judge.check_signals.Goals as goal

pub returns-in_err-unless : goal.returns-in_err-unless
returns-in_err-unless c =
    let place = c.args.first + 2 * c.loop-i.i in
    let signal = c.from-signal.ensures ∙ c.word.ensures in
    passed-on _ c.from_residual.ensures.1 (upto-stop (signal_checks c.args.bytes.now c.args.bound c.args.first) c.loop-i.i c.args.count _ (search rules) c.loop-i.invariant
    (sym (c.in_err-unless.ensures ∙ ap (λ v. verdict (check (nat_lt v c.args.bound) SignalRange place ∷ [])) signal)))

pub loop-i-preserved : goal.loop-i-preserved
loop-i-preserved c =
    let place = c.args.first + 2 * c.loop-i.i in
    let signal = c.from-signal.ensures ∙ c.word.ensures in
    upto-more (signal_checks c.args.bytes.now c.args.bound c.args.first) c.loop-i.i c.loop-i.invariant
    (sym (c.in_ok-unless.ensures ∙ ap (λ v. verdict (check (nat_lt v c.args.bound) SignalRange place ∷ [])) signal))
