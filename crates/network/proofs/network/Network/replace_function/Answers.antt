use Rattle.std.proofs.Common.{◌≡◌, length, vec_items, sym, ap, subst, arith, rules}
use Rattle.std.proofs.lemmas.List.{length-set}
use Rattle.network.specs.Rows.{Bytes}
use Rattle.network.proofs.Rows.{Rows, legal-of, legal-set, legal-with}
use Rattle.network.proofs.network.Network.replace_function.Goals as goal

pub invariant_of-self : goal.invariant_of-self
invariant_of-self c =
    let s = c.args.self.now in
    let byte : Bytes c.args.f = search rules in
    let new = legal-with _ _ c.args.f (omega arith) byte c.requires.clean (legal-of (s.legal c.args.n c.requires.within)) in
    let same : length (vec_items c.set_function.new.self.rows) ≡ length (vec_items s.table.rows) = simp length-set at (ap length c.set_function.ensures) in
    record { small = s.small; few = omega arith; legal = subst (Rows s.inputs) (sym c.set_function.ensures) (legal-set _ _ c.args.n _ c.requires.within new s.legal); exits = λ j h. omega (arith, s.exits j h) }
