use Rattle.std.proofs.Common.{◌||◌, get_or, rules}
use lib.Bits.{bit_or}
use Rattle.network.proofs.Bits.{bit-or}
use Rattle.cover.proofs.Bytes.{combined-set}
use Rattle.cover.proofs.table.union.Goals as goal

pub returns : goal.returns
returns c =
    combined-set bit_or ◌||◌ c.args.a c.args.b c.combined.result (λ j i _ _. bit-or (get_or c.args.a.bytes j 0) (get_or c.args.b.bytes j 0) i)
    (λ j h. let made = c.combined.ensures j h in search (rules, made))
