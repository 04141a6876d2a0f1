use Rattle.std.proofs.Common.{◌≡◌, ℕ, ◌-◌, length, take, subst, arith}
use native.Mathlib.Nat.{sub-zero}
use Rattle.std.proofs.lemmas.List.{length-take-le}
use Rattle.roll.specs.Adding.{Goes}
use Rattle.roll.proofs.Places.{place-within}
use Rattle.roll.proofs.Adds.{adds-entered}
use Rattle.roll.proofs.enter.enter.Goals as goal

pub insert_at-requires : goal.insert_at-requires
insert_at-requires g c =
    let n : length (take (c.args.count - 0) c.args.places.now) ≡ c.args.count - 0 = length-take-le (c.args.count - 0) c.args.places.now (omega arith) in
    let w = place-within g.T.Ranked.below c.args.item (take (c.args.count - 0) c.args.places.now) in
    let e = c.in-Err.ensures.1 in
    record { within = omega arith; free = c.if-count-places.false }

pub returns-else-count-places : goal.returns-else-count-places
returns-else-count-places g c =
    let P : ℕ → Type 0 = λ m. Goes g.T.Ranked.below c.args.item (take m c.args.places.now) c.in-Err.at in
    adds-entered g.T.Ranked.below c.args.item c.args.count c.args.places.now c.insert_at.new.places c.in-Err.at (subst P (sub-zero c.args.count) c.in-Err.ensures) c.if-count-places.false c.insert_at.ensures
