use Rattle.std.proofs.Common.{◌≡◌, ◌+◌, true, false, ◌||◌, length, sym, ap, ◌∙◌, arith}
use Rattle.std.proofs.lemmas.List.{length_push, take_all}
use Rattle.std.specs.Iterator.Adapters.{rev_source, enumerate_source, enumerate_count}
use Rattle.std.specs.Slice.Iter.{iter_rest}
use Rattle.network.specs.Nets.{row_at}
use Rattle.network.specs.Rows.{blank}
use Rattle.network.specs.Parts.{net_of}
use Rattle.network.specs.declared.row.Row.{Row}
use Rattle.network.specs.declared.network.Network.{Network}
use Rattle.context.specs.Levels.{is_fanin}
use Rattle.window.specs.Sets.{has}
use Rattle.search.specs.Contexts.{net_in}
use Rattle.search.proofs.Contexts.{legal-in}
use Rattle.window.proofs.Lasts.{front-last}
use Rattle.search.proofs.Plans.{gathered-start, gathered-more, gathered-skip}
use Rattle.search.proofs.plan.make.needed.Goals as goal

pub loop-n-init : goal.loop-n-init
loop-n-init c =
    let net = net_in c.args.context.now in
    let numbered : rev_source c.into_iter-n-iterator.result ≡ c.enumerate.result = ap rev_source c.into_iter-n-iterator.ensures.into_iter_gives ∙ c.rev-n-items.ensures.source in
    let rest : iter_rest (enumerate_source (rev_source c.into_iter-n-iterator.result)) ≡ net.rows =
    ap (λ i. iter_rest (enumerate_source i)) numbered ∙ ap iter_rest c.enumerate.ensures.source ∙ c.iter.ensures.rest ∙ c.rows.ensures.value ∙ ap (λ (n : Network). (net_of n).rows) c.network-network.ensures.value in
    let long = ap length rest in
    record {
      count = ap enumerate_count numbered ∙ c.enumerate.ensures.count;
      front = rest ∙ sym (take_all _ net.rows (omega (arith, long)));
      gathered = gathered-start net c.args.context.now.target _ c.seeds-set.result (omega (arith, long)) c.seeds-set.ensures;
    }

pub loop-n-preserved : goal.loop-n-preserved
loop-n-preserved c =
    let net = net_in c.args.context.now in
    let h = c.in-Some.ensures.steps in
    let v = c.loop-n.invariant in
    let less = iter_rest (enumerate_source (rev_source c.next.new.self)) in
    let at : c.in-Some.n ≡ length less = omega (arith, h.1.1, v.count) in
    let e : c.node_signal.result.0 ≡ net.inputs + length less = c.node_signal.ensures.value ∙ ap (λ (n : Network). (net_of n).inputs + c.in-Some.n) c.network-network.ensures.value ∙ ap (λ k. net.inputs + k) at in
    let y : has c.loop-n.set (net.inputs + length less) ≡ false = ap (has c.loop-n.set) (sym e) ∙ sym c.has.ensures ∙ c.if-has.false in
    let last = front-last net.rows _ less c.in-Some.row.now h.1.0 v.front in
    let size = ap length h.1.0 ∙ length_push less c.in-Some.row.now in
    record {
      count = h.0 ∙ v.count;
      front = last.front;
      gathered = gathered-skip net c.args.context.now.target (length less) _ c.loop-n.set (sym size) y v.gathered;
    }

pub loop-n-preserved-then-has : goal.loop-n-preserved-then-has
loop-n-preserved-then-has c =
    let net = net_in c.args.context.now in
    let h = c.in-Some.ensures.steps in
    let v = c.loop-n.invariant in
    let less = iter_rest (enumerate_source (rev_source c.next.new.self)) in
    let at : c.in-Some.n ≡ length less = omega (arith, h.1.1, v.count) in
    let e : c.node_signal.result.0 ≡ net.inputs + length less = c.node_signal.ensures.value ∙ ap (λ (n : Network). (net_of n).inputs + c.in-Some.n) c.network-network.ensures.value ∙ ap (λ k. net.inputs + k) at in
    let y : has c.loop-n.set (net.inputs + length less) ≡ true = ap (has c.loop-n.set) (sym e) ∙ sym c.has.ensures ∙ c.if-has.true in
    let last = front-last net.rows _ less c.in-Some.row.now h.1.0 v.front in
    let size = ap length h.1.0 ∙ length_push less c.in-Some.row.now in
    let r : c.in-Some.row.now ≡ row_at net (length less) = last.item blank in
    record {
      count = h.0 ∙ v.count;
      front = last.front;
      gathered = gathered-more net c.args.context.now.target (length less) _ c.loop-n.set c.insert_fanins.new.self (sym size) (legal-in c.args.context.now) last.low y
          (λ s. c.insert_fanins.ensures s ∙ ap (λ (q : Row). has c.loop-n.set s || is_fanin q s) r) v.gathered;
    }
