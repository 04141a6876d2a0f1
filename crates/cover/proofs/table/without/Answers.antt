use Rattle.std.proofs.Common.{◌-◌, not, ◌&&◌, get_or, ap, ◌∙◌, rules}
use lib.Bits.{bit_and}
use Rattle.network.specs.Rows.{bit_at, Bytes}
use Rattle.network.proofs.Bits.{bit-and}
use Rattle.cover.proofs.Bits.{bit_not}
use Rattle.cover.proofs.Bytes.{combined-set}
use Rattle.cover.proofs.table.without.Goals as goal

pub returns : goal.returns
returns c =
    let small : Bytes c.args.b = search rules in
    combined-set (λ x y. bit_and x (255 - y)) (λ p q. p && not q) c.args.a c.args.b c.combined.result
    (λ j i _ h. bit-and (get_or c.args.a.bytes j 0) (255 - get_or c.args.b.bytes j 0) i ∙ ap (λ q. bit_at (get_or c.args.a.bytes j 0) i && q) (bit_not (get_or c.args.b.bytes j 0) i (small j) h))
    (λ j h. let made = c.combined.ensures j h in search (rules, made))
