use Rattle.std.proofs.Common.{◌≡◌, ℕ, ◌+◌, ◌<◌, Bool, true, false, ◌||◌, nat_eq, List, length, take, sym, refl, ap, subst, ◌∙◌, arith}
use Rattle.std.proofs.Math.Bool.{or-false}
use Rattle.std.proofs.lemmas.List.{length_push, take_all}
use Rattle.std.specs.Iterator.Adapters.{rev_source, enumerate_source, enumerate_count}
use Rattle.std.specs.Slice.Iter.{iter_rest}
use Rattle.network.specs.Rows.{blank}
use Rattle.network.specs.Nets.{Net, LegalNet, nodes, row_at}
use Rattle.network.specs.declared.row.Signal.{Signal}
use Rattle.network.specs.Parts.{net_of}
use Rattle.network.specs.declared.row.Row.{Row}
use Rattle.network.proofs.Nets.{legal-net}
use Rattle.window.specs.Sets.{has}
use Rattle.window.specs.Lists.{some_in}
use Rattle.window.proofs.Used.{some-used}
use Rattle.window.proofs.Lasts.{front-last}
use Rattle.window.proofs.Readers.{ReadDown, reader, read-none, read-same, read-more, read-all}
use Rattle.window.proofs.levels.with_readers.Goals as goal

-- what the test says of node n, whose row it reads
reads-of : (net : Net) (Y : ℕ → Bool) (n : ℕ) (r : Row) (used : List Signal) (b : Bool) → b ≡ some_in Y used → LegalNet net → n < nodes net → r ≡ row_at net n → used ≡ take r.count r.fanins → b ≡ reader net Y n
reads-of net Y n r used b is legal low row u =
    let l = legal.row n low in
    is ∙ ap (some_in Y) (u ∙ ap (λ (q : Row). take q.count q.fanins) row) ∙ some-used Y (row_at net n) (omega arith)

pub loop-n-init : goal.loop-n-init
loop-n-init c =
    let net = net_of c.args.network.now in
    let numbered : rev_source c.into_iter-n-iterator.result ≡ c.enumerate.result = ap rev_source c.into_iter-n-iterator.ensures.into_iter_gives ∙ c.rev-n-items.ensures.source in
    let rest : iter_rest (enumerate_source (rev_source c.into_iter-n-iterator.result)) ≡ net.rows =
    ap (λ i. iter_rest (enumerate_source i)) numbered ∙ ap iter_rest c.enumerate.ensures.source ∙ c.iter.ensures.rest ∙ c.rows.ensures.value in
    let long = ap length rest in
    record {
      count = ap enumerate_count numbered ∙ c.enumerate.ensures.count;
      front = rest ∙ sym (take_all _ net.rows (omega (arith, long)));
      read = read-none net (has c.args.set) _ (has c.args.set) (omega (arith, long)) (λ s. refl);
    }

pub loop-n-preserved : goal.loop-n-preserved
loop-n-preserved c =
    let net = net_of c.args.network.now in
    let X : ℕ → Bool = has c.args.set in
    let Y : ℕ → Bool = has c.loop-n.wider in
    let h = c.in-Some.ensures.steps in
    let v = c.loop-n.invariant in
    let less = iter_rest (enumerate_source (rev_source c.next.new.self)) in
    let last = front-last net.rows _ less c.in-Some.row.now h.1.0 v.front in
    let size = ap length h.1.0 ∙ length_push less c.in-Some.row.now in
    let reads = reads-of net Y (length less) c.in-Some.row.now c.used.result.now _ c.has_any.ensures (legal-net c.args.network.now) last.low (last.item blank) c.used.ensures.value in
    let same = read-same net X (length less) _ Y size (legal-net c.args.network.now) last.low v.read in
    record {
      count = h.0 ∙ v.count;
      front = last.front;
      read = read-more net X (length less) _ Y Y false size last.low (sym c.if-has_any.false ∙ reads ∙ same) (λ s. sym (or-false (Y s))) v.read;
    }

pub loop-n-preserved-then-has_any : goal.loop-n-preserved-then-has_any
loop-n-preserved-then-has_any c =
    let net = net_of c.args.network.now in
    let X : ℕ → Bool = has c.args.set in
    let Y : ℕ → Bool = has c.loop-n.wider in
    let h = c.in-Some.ensures.steps in
    let v = c.loop-n.invariant in
    let less = iter_rest (enumerate_source (rev_source c.next.new.self)) in
    let at : c.in-Some.n ≡ length less = omega (arith, h.1.1, v.count) in
    let last = front-last net.rows _ less c.in-Some.row.now h.1.0 v.front in
    let size = ap length h.1.0 ∙ length_push less c.in-Some.row.now in
    let reads = reads-of net Y (length less) c.in-Some.row.now c.used.result.now _ c.has_any.ensures (legal-net c.args.network.now) last.low (last.item blank) c.used.ensures.value in
    let same = read-same net X (length less) _ Y size (legal-net c.args.network.now) last.low v.read in
    record {
      count = h.0 ∙ v.count;
      front = last.front;
      read = read-more net X (length less) _ Y (has c.insert.new.self) true size last.low (sym c.if-has_any.true ∙ reads ∙ same)
          (λ s. c.insert.ensures s ∙ ap (λ k. Y s || nat_eq k s) (c.node_signal.ensures.value ∙ ap (λ j. net.inputs + j) at)) v.read;
    }

pub returns : goal.returns
returns c = λ s.
    let net = net_of c.args.network.now in
    let none : length (iter_rest (enumerate_source (rev_source c.loop-n.n-iterator))) ≡ 0 = omega (arith, c.in-None.ensures.steps.1) in
    read-all net (has c.args.set) (has c.loop-n.wider) (subst (λ k. ReadDown net (has c.args.set) k (has c.loop-n.wider)) none c.loop-n.invariant.read) s
