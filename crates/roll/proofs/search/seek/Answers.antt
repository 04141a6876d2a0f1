use Rattle.std.proofs.Common.{sym, arith}
use Rattle.roll.proofs.Adds.{stands_at, goes_at}
use Rattle.roll.proofs.search.seek.Goals as goal

pub returns-then-at-entries : goal.returns-then-at-entries
returns-then-at-entries g c =
    goes_at g.T.Ranked.below g.met.T.Ranked.irreflexive c.args.item.now c.args.item.now c.args.entries.now c.place_of-at.result c.requires c.place_of-at.ensures (λ h. absurd (omega arith))

pub returns-then-precedes : goal.returns-then-precedes
returns-then-precedes g c =
    goes_at g.T.Ranked.below g.met.T.Ranked.irreflexive c.args.item.now c.index-entries-at.result c.args.entries.now c.place_of-at.result c.requires c.place_of-at.ensures (λ h. (c.index-entries-at.is, sym c.if-precedes.ensures))

pub returns-else-precedes : goal.returns-else-precedes
returns-else-precedes g c =
    stands_at g.T.Ranked.below g.met.T.Ranked.connected c.args.item.now c.index-entries-at.result c.args.entries.now c.place_of-at.result c.place_of-at.ensures (omega arith) c.index-entries-at.is (sym c.if-precedes.ensures)
