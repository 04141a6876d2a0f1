use Rattle.std.proofs.Common.{◌≡◌}
use Rattle.cover.specs.Tables.{members}
use Rattle.cover.proofs.Gathering.{Gathers}
use Rattle.cover.proofs.gather.gather.Given as goal

abbrev pub invariant-loop-y : goal.invariant-loop-y
invariant-loop-y l =
    Gathers l.fanins.count l.y-end (members l.off) l.initial.left l.left l.initial.roll.places.now l.roll.places.now l.roll.count l.y
    × (l.roll.places.ghost_name ≡ l.initial.roll.places.ghost_name)
