use Rattle.std.proofs.Common.{get_or, arith, rules, tests}
use Rattle.network.specs.Limits.{function_bytes}
use Rattle.cover.proofs.Made.{made}
use Rattle.cover.proofs.table.combined.Goals as goal

pub returns : goal.returns
returns g c =
    λ k h. made _ (λ j y. goal.F-post g c.args.op (get_or c.args.a.bytes j 0) (get_or c.args.b.bytes j 0) y) _ (λ i y q t. search (rules, tests)) c.from_fn.result 0 0 function_bytes c.from_fn.ensures.items.each k (omega arith) (omega arith)
