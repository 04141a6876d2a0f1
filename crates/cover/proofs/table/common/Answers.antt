use Rattle.std.proofs.Common.{◌&&◌, get_or, rules}
use lib.Bits.{bit_and}
use Rattle.network.proofs.Bits.{bit-and}
use Rattle.cover.proofs.Bytes.{combined-set}
use Rattle.cover.proofs.table.common.Goals as goal

pub returns : goal.returns
returns c =
    combined-set bit_and ◌&&◌ c.args.a c.args.b c.combined.result (λ j i _ _. bit-and (get_or c.args.a.bytes j 0) (get_or c.args.b.bytes j 0) i)
    (λ j h. let made = c.combined.ensures j h in search (rules, made))
