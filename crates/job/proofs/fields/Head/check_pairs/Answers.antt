use Rattle.std.proofs.Common.{◌≡◌, None, sym, ◌∙◌, subst, arith, rules}
use Rattle.job.specs.Checks.{verdict, upto, pair_checks, nodes_of}
use Rattle.job.proofs.Verdicts.{passed-on, upto-more, upto-stop, due-more}
use Rattle.job.proofs.fields.Head.check_pairs.Goals as goal

pub returns-in_err-due-clause-judged : goal.returns-in_err-due-clause-judged
returns-in_err-due-clause-judged c =
    passed-on _ c.from_residual.ensures.1 (upto-stop (pair_checks c.args.self.now.bytes.now) c.loop-n.n (nodes_of c.args.self.now.bytes.now) _ (search rules) c.loop-n.invariant.passed (sym c.in_err-due.ensures.judged))

pub loop-n-preserved : goal.loop-n-preserved
loop-n-preserved c =
    let bs = c.args.self.now.bytes.now in
    record {
      passed = upto-more (pair_checks bs) c.loop-n.n c.loop-n.invariant.passed (sym c.in_ok-due.ensures.judged);
      due = c.in_ok-due.ensures.end ∙ sym (due-more bs c.loop-n.n);
    }

pub returns-clause-judged : goal.returns-clause-judged
returns-clause-judged c =
    let bs = c.args.self.now.bytes.now in
    let all : c.loop-n.n ≡ nodes_of bs = omega arith in
    sym (subst (λ n. verdict (upto n (pair_checks bs)) ≡ None) all c.loop-n.invariant.passed)
