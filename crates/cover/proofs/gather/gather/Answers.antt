use Rattle.std.proofs.Common.{◌≡◌, ℕ, ◌+◌, ◌^◌, ◌<◌, ◌≤◌, true, not, ◌&&◌, List, length, sym, refl, ap, ◌∙◌, subst, arith, pow_mono}
use base.Fml.{GName}
use Rattle.std.specs.List.{range_with_len}
use Rattle.network.specs.Limits.{minterms}
use Rattle.network.specs.Rows.{bit_of}
use Rattle.cover.specs.Cubes.{in_cube, start}
use Rattle.cover.specs.Tables.{members}
use Rattle.cover.proofs.Strikes.{in-expanded, in_start}
use Rattle.cover.proofs.Gathering.{Gathers, gathers-none, gathers-skip, gathers-added}
use Rattle.network.specs.declared.row.Function.{Function}
use Rattle.cover.specs.declared.cube.Cube.{Cube}
use Rattle.cover.proofs.gather.gather.Goals as goal
use Rattle.cover.proofs.gather.gather.Goals.{then-bit, else-bit}

pub loop-y-init : goal.loop-y-init
loop-y-init c =
    (gathers-none c.args.fanins.count c.minterms-y-end.result (members c.args.off.now) c.args.on c.over-roll.result.places.now c.over-roll.result.count c.over-roll.ensures.count, refl)

-- what holds of a roll and of the on-minterms left
module _ (c : goal.Joined-bit) where
  abbrev Seen : List Cube → ℕ → GName → Function → Type 0
  Seen places count name left =
      Gathers c.args.fanins.count c.minterms-y-end.result (members c.args.off.now) c.args.on left c.over-roll.result.places.now places count (c.loop-y.y + 1)
      × (name ≡ c.over-roll.result.places.ghost_name)

pub loop-y-preserved : goal.loop-y-preserved
loop-y-preserved c =
    let f = c.args.fanins.count in
    let n = c.minterms-y-end.result in
    let off = members c.args.off.now in
    let y = c.loop-y.y in
    let few : n ≤ minterms = subst (λ k. k ≤ minterms) (sym c.minterms-y-end.ensures) (pow_mono c.args.fanins.few) in
    elim c.if-bit.branch [
      | then-bit w ↦
          let q = w.add.new.self in
          let cube = w.expand-cube.result in
          let small : y < 2 ^ f = subst (λ k. y < k) c.minterms-y-end.ensures c.loop-y-test.true in
          let held : in_cube cube y ≡ true = ap (λ d. in_cube d y) w.expand-cube.ensures ∙ in-expanded off (range_with_len 0 f) (start f y) y (in_start f y small) in
          let first : c.over-roll.result.places.now ≡ c.args.list.now = ap (λ r. r.now) c.over-roll.ensures.places in
          let room : n ≤ length c.over-roll.result.places.now = subst (λ ps. n ≤ length ps) (sym first) (omega (arith, c.minterms-y-end.ensures)) in
          subst (λ r. Seen c r.places.now r.count r.places.ghost_name c.if-bit.left) (sym w.roll-is) (subst (Seen c q.places.now q.count q.places.ghost_name) (sym w.left-is) (
            gathers-added f n off c.args.on c.loop-y.left w.without-left.result c.over-roll.result.places.now c.loop-y.roll.places.now q.places.now c.loop-y.roll.count q.count y cube w.add.result few room c.loop-y-test.true
                (sym c.bit.ensures ∙ w.if-bit.true) w.expand-cube.ensures held
                (λ z k. w.without-left.ensures z k ∙ ap (λ b. bit_of c.loop-y.left z && not b) (w.table.ensures z k))
                w.add.ensures.adds w.add.ensures.count c.loop-y.invariant.0,
            w.add.ensures.lender ∙ c.loop-y.invariant.1,
          ))
      | else-bit w ↦ subst (λ r. Seen c r.places.now r.count r.places.ghost_name c.if-bit.left) (sym w.roll-is) (subst (Seen c c.loop-y.roll.places.now c.loop-y.roll.count c.loop-y.roll.places.ghost_name) (sym w.left-is)
          (gathers-skip f n off c.args.on c.loop-y.left c.over-roll.result.places.now c.loop-y.roll.places.now c.loop-y.roll.count y few c.loop-y-test.true (sym c.bit.ensures ∙ w.if-bit.false) c.loop-y.invariant.0, c.loop-y.invariant.1))
    ]
