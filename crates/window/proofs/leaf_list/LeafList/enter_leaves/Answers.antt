use Rattle.std.proofs.Common.{◌≡◌, ℕ, ◌+◌, ◌<◌, Bool, true, not, ◌&&◌, ◌||◌, length, sym, ap, ◌∙◌, arith}
use Rattle.network.specs.Nets.{nodes, row_at}
use Rattle.network.specs.Parts.{net_of}
use Rattle.network.proofs.Nets.{legal-net}
use Rattle.context.specs.Levels.{is_fanin}
use Rattle.window.specs.Sets.{has, feeds}
use Rattle.window.specs.Lists.{listed}
use Rattle.window.specs.Entries.{entries_of}
use Rattle.window.specs.declared.leaf_list.LeafList.{LeafList}
use Rattle.window.proofs.Marks.{guard-zero, guard-next, guard-skip, guard-part, guard-one}
use Rattle.window.proofs.Used.{listed_used}
use Rattle.window.proofs.Entries.{full-more, handed-on}
use Rattle.window.proofs.leaf_list.LeafList.enter_leaves.Goals as goal
use Rattle.window.proofs.leaf_list.LeafList.enter_leaves.Goals.{then-has+in_ok-enter_all, else-has}

pub loop-n-init : goal.loop-n-init
loop-n-init c = λ s.
    let net = net_of c.args.region.now.network.now in
    let m : ℕ → Bool = has c.args.region.now.members in
    guard-zero (listed (entries_of c.args.self.now) s) (not (m s)) (λ j. m (net.inputs + j) && is_fanin (row_at net j) s)

pub loop-n-preserved : goal.loop-n-preserved
loop-n-preserved c = λ s.
    let net = net_of c.args.region.now.network.now in
    let n : ℕ = c.loop-n.n in
    let m : ℕ → Bool = has c.args.region.now.members in
    let p : ℕ → Bool = λ j. m (net.inputs + j) && is_fanin (row_at net j) s in
    let q : Bool = is_fanin (row_at net n) s in
    let here : m (net.inputs + n) ≡ c.has.result = ap m (sym c.node_signal.ensures.value) ∙ sym c.has.ensures in
    let v : Bool = listed (entries_of c.loop-n.self) s in
    let e : Bool = listed (entries_of c.args.self.now) s in
    let l : n < nodes net = omega (arith, ap length c.rows-row-items.ensures.value) in
    elim c.if-has.branch [
      | then-has+in_ok-enter_all w ↦
          ap (λ (r : LeafList). listed (entries_of r) s) w.self-is ∙ w.in_ok-enter_all.ensures s
          ∙ ap (λ b. v || (not (m s) && b)) (listed_used net c.rows-row-items.result.now w.used.result.now n (legal-net c.args.region.now.network.now) l c.rows-row-items.ensures.value w.used.ensures.value s)
          ∙ guard-next v e (not (m s)) q n p (c.loop-n.invariant s) (ap (λ b. b && q) (here ∙ w.if-has.true))
      | else-has w ↦
          ap (λ (r : LeafList). listed (entries_of r) s) w.self-is ∙ guard-skip v e (not (m s)) n p (c.loop-n.invariant s) (ap (λ b. b && q) (here ∙ w.if-has.false))
    ]

pub returns-in_err-enter_all : goal.returns-in_err-enter_all
returns-in_err-enter_all c =
    let net = net_of c.args.region.now.network.now in
    let n : ℕ = c.loop-n.n in
    let m : ℕ → Bool = has c.args.region.now.members in
    let p : ℕ → ℕ → Bool = λ s j. m (net.inputs + j) && is_fanin (row_at net j) s in
    let here : m (net.inputs + n) ≡ true = ap m (sym c.node_signal.ensures.value) ∙ sym c.has.ensures ∙ c.if-has.true in
    let l : n < nodes net = omega (arith, ap length c.rows-row-items.ensures.value) in
    let before = entries_of c.args.self.now in
    let mid = entries_of c.loop-n.self in
    let out : ℕ → Bool = λ s. not (m s) in
    let used : (s : ℕ) → listed c.used.result.now s ≡ is_fanin (row_at net n) s =
    listed_used net c.rows-row-items.result.now c.used.result.now n (legal-net c.args.region.now.network.now) l c.rows-row-items.ensures.value c.used.ensures.value in
    handed-on _ before _ c.in_err-enter_all.field-0.0 c.from_residual.result
    (full-more (λ s. out s && listed c.used.result.now s) (λ s. out s && feeds net m (nodes net) s) before mid _
    (λ s h. guard-part (listed mid s) (listed before s) (out s) n (nodes net) (p s) (omega arith) (c.loop-n.invariant s) h)
    (λ s h. guard-one (out s) n (nodes net) (p s) l (ap (λ b. out s && (b && is_fanin (row_at net n) s)) here ∙ ap (λ b. out s && b) (sym (used s)) ∙ h))
    c.in_err-enter_all.field-0.0 c.in_err-enter_all.ensures)
    c.from_residual.ensures.1
