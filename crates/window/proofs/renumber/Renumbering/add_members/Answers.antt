use Rattle.std.proofs.Common.{◌≡◌, ℕ, ◌+◌, Bool, true, false, sym, refl, ap, ◌∙◌, ⊎_elim, arith}
use Rattle.std.proofs.lemmas.Bool.{cases_eq, both_ways}
use Rattle.network.specs.Parts.{net_of}
use Rattle.context.specs.Care.{count_below}
use Rattle.context.proofs.Counts.{count_most}
use Rattle.window.specs.Sets.{has}
use Rattle.window.specs.Numbers.{new_at}
use Rattle.window.specs.declared.renumber.Renumbering.{Renumbering}
use Rattle.window.proofs.Numbers.{none_below, next-in, next-out, put-here, put-there}
use Rattle.window.proofs.renumber.Renumbering.add_members.Goals as goal
use Rattle.window.proofs.renumber.Renumbering.add_members.Goals.{then-has, else-has}

pub loop-n-init : goal.loop-n-init
loop-n-init c =
    let net = net_of c.args.region.now.network.now in
    let m : ℕ → Bool = has c.args.region.now.members in
    let z = none_below m net.inputs c.args.region.now.above in
    (omega arith, λ s l h. let q = c.args.region.now.above s h in absurd (omega arith), λ s _. refl)

pub loop-n-preserved : goal.loop-n-preserved
loop-n-preserved c =
    let net = net_of c.args.region.now.network.now in
    let m : ℕ → Bool = has c.args.region.now.members in
    let n : ℕ = c.loop-n.n in
    let k : c.node_signal-signal.result.0 ≡ net.inputs + n = c.node_signal-signal.ensures.value in
    let here : m (net.inputs + n) ≡ c.has.result = ap m (sym k) ∙ sym c.has.ensures in
    let v = c.loop-n.invariant in
    let f : ℕ → ℕ = new_at c.loop-n.self in
    elim c.if-has.branch [
      | then-has w ↦
          let y : m (net.inputs + n) ≡ true = here ∙ w.if-has.true in (
            (let e = w.next-is in let g = v.0 in omega (arith, next-in m net.inputs n y)),
            λ s l h.
                ap (λ (r : Renumbering). new_at r s) w.self-is ∙ w.put.ensures s
                ∙ ⊎_elim
                (λ e. put-here c.node_signal-signal.result.0 s c.loop-n.next (f s) (k ∙ sym e) ∙ v.0 ∙ ap (λ i. c.args.leaves + count_below i m) (sym e))
                (λ ne. put-there c.node_signal-signal.result.0 s c.loop-n.next (f s) (λ e. ne (sym e ∙ k)) ∙ v.1 s (omega arith) h)
                (cases_eq s (net.inputs + n)),
            λ s h.
                ap (λ (r : Renumbering). new_at r s) w.self-is ∙ w.put.ensures s
                ∙ put-there c.node_signal-signal.result.0 s c.loop-n.next (f s) (λ e. both_ways (m s) h (ap m (sym e ∙ k) ∙ y)) ∙ v.2 s h,
          )
      | else-has w ↦
          let y : m (net.inputs + n) ≡ false = here ∙ w.if-has.false in (
            (let e = w.next-is in let g = v.0 in omega (arith, next-out m net.inputs n y)),
            λ s l h.
                ap (λ (r : Renumbering). new_at r s) w.self-is
                ∙ v.1 s (⊎_elim (λ e. absurd (both_ways (m s) (ap m e ∙ y) h)) (λ ne. omega arith) (cases_eq s (net.inputs + n))) h,
            λ s h. ap (λ (r : Renumbering). new_at r s) w.self-is ∙ v.2 s h,
          )
    ]

pub overflow_cast-next : goal.overflow_cast-next
overflow_cast-next c =
    let net = net_of c.args.region.now.network.now in
    let a = count_most (net.inputs + c.loop-n.n) (has c.args.region.now.members) in
    let l = c.loop-n-test.true in
    let b = c.node_count-n-end.ensures.few in
    let d = c.node_count-n-end.ensures.inputs in
    let g = c.loop-n.invariant.0 in
    omega arith

pub overflow_add-next : goal.overflow_add-next
overflow_add-next c =
    let net = net_of c.args.region.now.network.now in
    let a = count_most (net.inputs + c.loop-n.n) (has c.args.region.now.members) in
    let l = c.loop-n-test.true in
    let b = c.node_count-n-end.ensures.few in
    let d = c.node_count-n-end.ensures.inputs in
    let g = c.loop-n.invariant.0 in
    omega arith
