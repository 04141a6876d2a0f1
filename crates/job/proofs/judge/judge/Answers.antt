use Rattle.std.proofs.Common.{sym, ap, ◌∙◌}
use Rattle.job.specs.Checks.{verdict, checks}
use Rattle.job.proofs.Verdicts.{passed-on, head-passes, at-outputs, at-pairs, at-end, at_records}
use Rattle.job.proofs.judge.judge.Goals as goal

pub returns-in_err-check_outputs-clause-judged : goal.returns-in_err-check_outputs-clause-judged
returns-in_err-check_outputs-clause-judged c =
    let bs = c.in_ok-head.head.bytes.now in
    let same = c.in_ok-head.ensures.same in
    passed-on _ c.from_residual-in_err-check_outputs.ensures.1 (at-outputs bs _ (head-passes _ bs same c.in_ok-head.ensures.judged) (sym c.in_err-check_outputs.ensures)) ∙ ap (λ b. verdict (checks b)) same

pub returns-in_err-due-clause-judged : goal.returns-in_err-due-clause-judged
returns-in_err-due-clause-judged c =
    let bs = c.in_ok-head.head.bytes.now in
    let same = c.in_ok-head.ensures.same in
    passed-on _ c.from_residual-in_err-due.ensures.1 (at-pairs bs _ (head-passes _ bs same c.in_ok-head.ensures.judged) (sym c.in_ok-check_outputs.ensures) (sym c.in_err-due.ensures.judged)) ∙ ap (λ b. verdict (checks b)) same

pub returns-in_err-check_end-clause-judged : goal.returns-in_err-check_end-clause-judged
returns-in_err-check_end-clause-judged c =
    let bs = c.in_ok-head.head.bytes.now in
    let same = c.in_ok-head.ensures.same in
    passed-on _ c.from_residual-in_err-check_end.ensures.1 (at-end bs _ (head-passes _ bs same c.in_ok-head.ensures.judged) (sym c.in_ok-check_outputs.ensures) (sym c.in_ok-due.ensures.judged) (sym c.in_err-check_end.ensures)) ∙ ap (λ b. verdict (checks b)) same

pub returns-in_err-check_records-clause-judged : goal.returns-in_err-check_records-clause-judged
returns-in_err-check_records-clause-judged c =
    let bs = c.in_ok-head.head.bytes.now in
    let same = c.in_ok-head.ensures.same in
    passed-on _ c.from_residual-in_err-check_records.ensures.1 (at_records bs (head-passes _ bs same c.in_ok-head.ensures.judged) (sym c.in_ok-check_outputs.ensures) (sym c.in_ok-due.ensures.judged) (sym c.in_ok-check_end.ensures) ∙ sym c.in_err-check_records.ensures) ∙ ap (λ b. verdict (checks b)) same

pub invariant_of-result : goal.invariant_of-result
invariant_of-result c =
    let bs = c.in_ok-head.head.bytes.now in
    record { passed = at_records bs (head-passes _ bs c.in_ok-head.ensures.same c.in_ok-head.ensures.judged) (sym c.in_ok-check_outputs.ensures) (sym c.in_ok-due.ensures.judged) (sym c.in_ok-check_end.ensures) ∙ sym c.in_ok-check_records.ensures }
