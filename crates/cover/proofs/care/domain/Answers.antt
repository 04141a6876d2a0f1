use Rattle.std.proofs.Common.{ℕ, ◌-◌, subst}
use Rattle.network.specs.Limits.{minterms}
use Rattle.cover.specs.Cubes.{in_cube}
use Rattle.cover.specs.Tables.{IsSet}
use Rattle.cover.proofs.Listed.{domain-set}
use Rattle.cover.proofs.care.domain.Goals as goal

pub returns : goal.returns
returns c =
    let P : ℕ → Type 0 = λ n. IsSet c.table.result (in_cube (record { mask = minterms - n; values = 0 })) in
    domain-set c.args.fanins.count c.table.result c.args.fanins.few (subst P c.minterms.ensures c.table.ensures)
