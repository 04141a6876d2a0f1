use Rattle.std.proofs.Common.{◌≡◌, ◌+◌, ◌<◌, not, ◌&&◌, ◌++◌, length, get_or, take, drop, sym, ap, ◌∙◌, subst, arith}
use Rattle.std.proofs.lemmas.List.{get_or-take, length-take-le}
use Rattle.network.specs.Rows.{bit_of}
use Rattle.cover.specs.Cubes.{in_cover, no_cube}
use Rattle.cover.specs.Tables.{IsSet, members, no_table}
use Rattle.cover.specs.Covers.{spare}
use Rattle.cover.proofs.Pruning.{prunes-drop, prunes-keep, prunes-at, spare-by-table}
use Rattle.cover.proofs.prune.prune.Goals as goal
use Rattle.cover.proofs.prune.prune.Goals.{then-meets, else-meets}

pub loop-i-preserved : goal.loop-i-preserved
loop-i-preserved c =
    let on = c.args.on in
    let first = c.args.cubes.now in
    let cubes = c.loop-i.cubes in
    let stays = c.loop-i.stays in
    let i = c.loop-i.i in
    let cube = get_or cubes i no_cube in
    let later = take (length first) c.fill_later.new.later in
    let size : length later ≡ length first = length-take-le (length first) c.fill_later.new.later (omega (arith, c.fill_later.auto.later, c.requires)) in
    let l : i < length first = omega (arith, size, c.loop-i-test.true) in
    let behind : IsSet (get_or later i no_table) (in_cover (drop (i + 1) first)) =
    subst (λ t. IsSet t (in_cover (drop (i + 1) first))) (sym (get_or-take (length first) c.fill_later.new.later i no_table l)) (c.fill_later.ensures i l) in
    let spares : spare (members on) cube (take stays cubes ++ drop (i + 1) first) ≡ not c.meets.result =
    spare-by-table on c.loop-i.left (get_or later i no_table) c.without-lone.result cube (take stays cubes) (drop (i + 1) first) c.meets.result c.loop-i.invariant.bare behind c.without-lone.ensures c.meets.ensures in
    elim c.if-meets.branch [
      | then-meets w ↦ prunes-at on first (i + 1) w.left-is w.cubes-is w.stays-is
          (prunes-keep on c.loop-i.left w.without-left.result first cubes stays i l (spares ∙ ap not w.if-meets.true)
          (λ z h. w.without-left.ensures z h ∙ ap (λ b. bit_of c.loop-i.left z && not b) (w.table.ensures z h)) c.loop-i.invariant)
      | else-meets w ↦ prunes-at on first (i + 1) w.left-is w.cubes-is w.stays-is
          (prunes-drop on c.loop-i.left first cubes stays i l (spares ∙ ap not w.if-meets.false) c.loop-i.invariant)
    ]
