use Rattle.std.proofs.Common.{◌≡◌, ◌+◌, ◌-◌, ◌*◌, take, drop, ap, ◌∙◌, arith}
use Rattle.job.specs.Bytes.{seg}
use Rattle.job.specs.Checks.{byte_at, width_of}
use Rattle.job.proofs.fields.Record.function.Goals as goal

pub returns-clause-value : goal.returns-clause-value
unfolding seg
returns-clause-value c =
    let bs = c.args.self.now.bytes.now in
    let first : c.fanin_place-first.result ≡ c.args.self.now.at + 1 + 2 * byte_at bs c.args.self.now.at = omega arith in
    let wide : c.fanin_place-first.result + c.width.result - c.fanin_place-first.result ≡ width_of (byte_at bs c.args.self.now.at) = omega (arith, ap width_of c.count-count.ensures) in
    ap (λ n. take n (drop c.fanin_place-first.result bs)) wide ∙ ap (λ a. take (width_of (byte_at bs c.args.self.now.at)) (drop a bs)) first
