use Rattle.std.proofs.Common.{◌≡◌, ℕ, ◌+◌, ◌<◌, ◌≤◌, Bool, false, ◌||◌, eqb, List, length, get_or, take, drop, set, replicate, sym, ap, ◌∙◌, arith}
use mathlib.Core.Path.{subst⁻¹}
use Rattle.std.proofs.lemmas.List.{take_all}
use Rattle.network.specs.Rows.{blank, Legal}
use Rattle.network.specs.Nets.{Net, nodes, size, row_at}
use Rattle.network.specs.Parts.{net_of}
use Rattle.network.specs.declared.row.Row.{Row}
use Rattle.theory.proofs.Values.{lowers}
use Rattle.logic.specs.Walks.{over}
use Rattle.logic.specs.Depends.{any_marked, dependents}
use Rattle.logic.proofs.Fronts.{Front}
use Rattle.logic.proofs.Depends.{any-listed, eqb-add, behind, depends, depends-size, marks-none, marks-next, marks-more}
use Rattle.logic.proofs.dependents.mark_dependents.Goals as goal

pub loop-n-init : goal.loop-n-init
loop-n-init c =
    let net : Net = net_of c.args.network.now in
    let is : c.unmark.new.marks ≡ over (replicate net.inputs false) c.args.marks.now =
    c.unmark.ensures ∙ ap (λ k. over (replicate k false) c.args.marks.now) c.inputs-inputs.ensures in
    subst⁻¹ (λ (vs : List Bool). Front vs (net.inputs + 0) (dependents (net.inputs + c.args.target) net) vs) is (marks-none (net.inputs + c.args.target) net (lowers c.rows-row-items.ensures.legal) c.args.marks.now)

pub loop-n-preserved : goal.loop-n-preserved
loop-n-preserved c =
    let net : Net = net_of c.args.network.now in
    let k : ℕ = net.inputs in
    let t : ℕ = k + c.args.target in
    let n : ℕ = c.loop-n.n in
    let vs = c.loop-n.marks in
    let es = c.unmark.new.marks in
    let v : Bool = eqb n c.args.target || c.reads_marked.result in
    let low = lowers c.rows-row-items.ensures.legal in
    let same : c.rows-row-items.result.now ≡ net.rows = c.rows-row-items.ensures.value in
    let place : c.inputs-inputs.result ≡ k = c.inputs-inputs.ensures in
    let row : Row = get_or c.rows-row-items.result.now n blank in
    let lt : n < nodes net = omega (arith, ap length same) in
    let legal : Legal (k + n) row = subst⁻¹ (λ (rs : List Row). Legal (k + n) (get_or rs n blank)) same (c.rows-row-items.ensures.legal.row n lt) in
    let room : size net ≤ length vs = omega arith in
    let any : c.reads_marked.result ≡ any_marked (row_at net n) (λ s. get_or vs s false) (row_at net n).count =
    c.reads_marked.ensures ∙ any-listed (k + n) row c.used.result.now (λ s. get_or vs s false) legal c.used.ensures.value ∙ ap (λ (rs : List Row). any_marked (get_or rs n blank) (λ s. get_or vs s false) (get_or rs n blank).count) same in
    let is : v ≡ depends t net low (k + n) =
    ap (λ b. b || c.reads_marked.result) (eqb-add k n c.args.target) ∙ ap (λ b. eqb (k + n) t || b) any ∙ marks-next t net low vs es n lt c.loop-n.invariant in
    subst⁻¹ (λ (m : ℕ). Front (set vs (m + n) v) (k + (n + 1)) (dependents t net) es) place (marks-more t net low vs es n v lt room c.loop-n.invariant is)

pub returns : goal.returns
returns c =
    let net : Net = net_of c.args.network.now in
    let t : ℕ = net.inputs + c.args.target in
    let vs = c.loop-n.marks in
    let low = lowers c.rows-row-items.ensures.legal in
    let all : net.inputs + c.loop-n.n ≡ size net = omega (arith, ap length c.rows-row-items.ensures.value) in
    let whole : length (dependents t net) ≤ size net = omega (arith, depends-size t net low) in
    let place : c.inputs-inputs.result ≤ size net = omega arith in
    record {
      marks = ap (λ m. take m vs) (sym all) ∙ c.loop-n.invariant.front ∙ ap (λ m. take m (dependents t net)) all ∙ take_all (size net) (dependents t net) whole;
      rest = ap (λ m. drop m vs) (sym all) ∙ c.loop-n.invariant.rest ∙ ap (λ m. drop m c.unmark.new.marks) all ∙ ap (drop (size net)) c.unmark.ensures ∙
          behind c.inputs-inputs.result (size net) c.args.marks.now place;
    }
