use Rattle.std.proofs.Common.{ℕ, Bool, not, ◌&&◌, eqb, length, get_or, refl, ◌∙◌, arith}
use Rattle.network.specs.Rows.{no_signal}
use Rattle.context.specs.Care.{any_below}
use Rattle.window.specs.Sets.{has}
use Rattle.window.specs.Lists.{listed}
use Rattle.window.specs.Entries.{entries_of}
use Rattle.window.proofs.Marks.{guard-zero, guard-next, guard-part, guard-one}
use Rattle.window.proofs.Entries.{full-more, handed-on}
use Rattle.window.proofs.leaf_list.LeafList.enter_all.Goals as goal

pub loop-signal-init : goal.loop-signal-init
loop-signal-init c = λ s. guard-zero (listed (entries_of c.args.self.now) s) (not (has c.args.members.now s)) (λ k. eqb (get_or c.args.signals.now k no_signal).0 s)

pub loop-signal-preserved : goal.loop-signal-preserved
loop-signal-preserved c = λ s.
    let p : ℕ → Bool = λ k. eqb (get_or c.args.signals.now k no_signal).0 s in
    let i : ℕ = c.loop-signal.signal-index in
    c.in_ok-enter.ensures s
    ∙ guard-next (listed (entries_of c.loop-signal.self) s) (listed (entries_of c.args.self.now) s) (not (has c.args.members.now s)) (p i) i p (c.loop-signal.invariant s) refl

pub returns-in_err-enter : goal.returns-in_err-enter
returns-in_err-enter c =
    let i : ℕ = c.loop-signal.signal-index in
    let k : ℕ = length c.args.signals.now in
    let before = entries_of c.args.self.now in
    let mid = entries_of c.loop-signal.self in
    let out : ℕ → Bool = λ s. not (has c.args.members.now s) in
    let p : ℕ → ℕ → Bool = λ s k. eqb (get_or c.args.signals.now k no_signal).0 s in
    handed-on _ before _ c.in_err-enter.field-0.0 c.from_residual.result
    (full-more (λ s. out s && p s i) (λ s. out s && any_below k (p s)) before mid _
    (λ s h. guard-part (listed mid s) (listed before s) (out s) i k (p s) (omega arith) (c.loop-signal.invariant s) h)
    (λ s h. guard-one (out s) i k (p s) c.loop-signal-test.true h) c.in_err-enter.field-0.0 c.in_err-enter.ensures)
    c.from_residual.ensures.1
