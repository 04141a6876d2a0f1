use Rattle.std.proofs.Common.{◌+◌, refl, ◌∙◌, arith}
use Rattle.job.specs.Checks.{byte_at}
use Rattle.job.proofs.Verdicts.{same-signals}
use Rattle.job.proofs.fields.Record.check_fanins.Goals as goal

pub returns : goal.returns
returns c =
    let bs = c.args.self.now.bytes.now in
    let at = c.args.self.now.at in
    c.check_signals.ensures ∙ same-signals bs c.from-count.result (byte_at bs at) c.args.signal c.args.signal c.fanin_place.result (at + 1) (omega arith) refl (omega arith)
