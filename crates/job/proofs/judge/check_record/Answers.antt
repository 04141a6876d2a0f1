use Rattle.std.proofs.Common.{sym, ◌∙◌}
use Rattle.job.proofs.Verdicts.{passed-on, same-fanins, same-stray, record-stop, record-end}
use Rattle.job.proofs.judge.check_record.Goals as goal

pub returns-in_err-check_fanins : goal.returns-in_err-check_fanins
returns-in_err-check_fanins c =
    let same = c.in_ok-shaped.ensures.same in
    passed-on _ c.from_residual-in_err-check_fanins.ensures.1 (record-stop c.args.bytes.now c.args.signal c.args.at c.args.size _ (sym c.in_ok-shaped.ensures.judged)
    (sym (c.in_err-check_fanins.ensures ∙ same-fanins _ _ c.args.signal _ _ same.0 same.1)))

pub returns : goal.returns
returns c =
    let same = c.in_ok-shaped.ensures.same in
    c.check_stray.ensures ∙ same-stray _ _ _ _ same.0 same.1
    ∙ sym (record-end c.args.bytes.now c.args.signal c.args.at c.args.size (sym c.in_ok-shaped.ensures.judged) (sym (c.in_ok-check_fanins.ensures ∙ same-fanins _ _ c.args.signal _ _ same.0 same.1)))
