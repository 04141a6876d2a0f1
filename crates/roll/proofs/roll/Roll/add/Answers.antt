use Rattle.std.proofs.Common.{◌+◌, refl, ap}
use Rattle.roll.proofs.Adds.{adds-roll-by}
use Rattle.roll.proofs.Rising.{rising-distinct}
use Rattle.roll.proofs.roll.Roll.add.Goals as goal

pub invariant_of-self : goal.invariant_of-self
invariant_of-self g c =
    let s = c.args.self.now in
    let j = adds-roll-by g.T.Ranked.below g.met.T.Ranked.transitive g.met.T.Ranked.connected c.args.item s.count _ s.places.now c.enter-added.new.places _ c.growth.ensures s.fits s.rising c.enter-added.ensures in
    record { fits = j.fits; rising = j.rising }

pub returns : goal.returns
returns g c =
    let s = c.args.self.now in
    let j = adds-roll-by g.T.Ranked.below g.met.T.Ranked.transitive g.met.T.Ranked.connected c.args.item s.count _ s.places.now c.enter-added.new.places _ c.growth.ensures s.fits s.rising c.enter-added.ensures in
    record {
      adds = c.enter-added.ensures;
      count = ap (λ k. s.count + k) c.growth.ensures;
      roll = j;
      distinct = rising-distinct g.T.Ranked.below g.met.T.Ranked.irreflexive _ j.rising;
      lender = refl;
    }
