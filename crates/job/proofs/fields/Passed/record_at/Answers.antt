use Rattle.std.proofs.Common.{◌+◌, sym, subst, arith}
use Rattle.job.specs.Checks.{inputs_of, length_of}
use Rattle.job.proofs.Passed.{Fits, passed}
use Rattle.job.proofs.fields.Passed.record_at.Goals as goal

pub invariant_of-result : goal.invariant_of-result
invariant_of-result c =
    let head = c.args.self.now.head in
    let bs = head.bytes.now in
    let p = passed bs c.args.self.now.passed in
    let within = p.within c.args.n c.requires in
    let fits : Fits bs (inputs_of bs + c.args.n) c.offset.result (length_of bs c.args.n) = subst (λ a. Fits bs (inputs_of bs + c.args.n) a (length_of bs c.args.n)) (sym c.offset.ensures.value) (p.fits c.args.n c.requires) in
    record { few = fits.few; within = omega (arith, fits.long, within) }
