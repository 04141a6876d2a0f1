use Rattle.std.proofs.Common.{◌/◌, ◌%◌, ◌^◌, eqb, ap}
use Rattle.network.specs.Rows.{bit_at, bit_of}
use Rattle.network.proofs.row.Function.bit.Goals as goal

pub returns : goal.returns
unfolding bit_at bit_of
returns c = ap (λ b. eqb (b / 2 ^ (c.args.y.0 % 8) % 2) 1) c.byte.ensures
