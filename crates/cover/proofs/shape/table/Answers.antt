use Rattle.std.proofs.Common.{◌≡◌, arith, rules, tests}
use Rattle.network.specs.Limits.{function_bytes}
use Rattle.cover.specs.Bytes.{byte_of}
use Rattle.cover.proofs.Made.{made}
use Rattle.cover.proofs.Shapes.{bytes-set}
use Rattle.cover.proofs.shape.table.Goals as goal

pub returns : goal.returns
returns c =
    bytes-set c.args.cube (record { bytes = c.from_fn.result })
    (λ j h. made _ (λ j y. y ≡ byte_of c.args.cube j) _ (λ i y q k. search (rules, tests)) c.from_fn.result 0 0 function_bytes c.from_fn.ensures.items.each j (omega arith) (omega arith))
