use Rattle.std.proofs.Common.{◌/◌, ◌%◌, ap, ◌∙◌, arith}
use Rattle.std.proofs.lemmas.List.{get_or-replicate}
use Rattle.network.specs.Limits.{function_bytes}
use Rattle.network.specs.Rows.{bit_at, bit_of}
use Rattle.network.proofs.Bits.{bit-of-zero}
use Rattle.cover.proofs.table.none.Goals as goal

pub returns : goal.returns
unfolding bit_of
returns c = λ y h. ap (λ n. bit_at n (y % 8)) (get_or-replicate function_bytes (y / 8) 0 0 (omega arith)) ∙ bit-of-zero (y % 8)
