use Rattle.std.proofs.Common.{arith}
use Rattle.logic.proofs.Pairs.{pair-low, pair-high}
use Rattle.logic.proofs.fold.bit_pair.Goals as goal

pub returns : goal.returns
returns c = record { small = omega arith; low = pair-low c.args.function.now c.args.i; high = pair-high c.args.function.now c.args.i }
