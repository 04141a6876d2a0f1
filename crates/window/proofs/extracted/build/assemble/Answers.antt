use Rattle.std.proofs.Common.{◌≡◌, ◌+◌, ◌<◌, length, sym, ap, ◌∙◌, arith}
use Rattle.network.specs.Nets.{Net, nodes}
use Rattle.network.specs.Parts.{net_of}
use Rattle.network.specs.declared.row.Signal.{Signal}
use Rattle.context.specs.Windows.{leaves_of}
use Rattle.context.specs.Extracts.{place_of, extract_of}
use Rattle.context.proofs.Made.{extract-is, extract-place}
use Rattle.window.specs.Sets.{has}
use Rattle.window.specs.Numbers.{new_at}
use Rattle.window.proofs.Ready.{members-of}
use Rattle.window.proofs.Built.{leaf-count, target-new}
use Rattle.window.proofs.extracted.build.assemble.Goals as goal

-- the target's new number
numbered : (c : goal.After-len) → c.of.result.0 ≡ c.len.result + place_of (net_of c.args.numbered.region.network.now) (has c.args.numbered.region.members) c.args.numbered.region.node
numbered c =
    let r = c.args.numbered.region in
    let net = net_of r.network.now in
    let k : c.len.result ≡ length (leaves_of net (has r.members)) = omega (arith, c.len.ensures, leaf-count net (has r.members) c.args.numbered.leaves.items c.args.numbered.list) in
    target-new net (has r.members) r.node c.node_signal-signal.result.0 c.of.result.0 c.len.result (new_at c.args.numbered.numbers) (members-of r) c.args.numbered.numbered
    c.node_signal-signal.ensures.value (ap (λ (x : Signal). x.0) c.of.ensures) k

pub overflow_sub-target : goal.overflow_sub-target
overflow_sub-target c = omega (arith, numbered c)

pub invariant_of-result : goal.invariant_of-result
invariant_of-result c =
    let r = c.args.numbered.region in
    let net = net_of r.network.now in
    let m = has r.members in
    let e : net_of c.in_ok-network.network ≡ extract_of net m r.node = c.in_ok-network.ensures in
    let p : place_of net m r.node < nodes (extract_of net m r.node) = extract-place net m r.node (members-of r) in
    let i : (net_of c.in_ok-network.network).inputs ≡ length (leaves_of net m) = ap (λ (w : Net). w.inputs) e ∙ (extract-is net m r.node).inputs in
    let f = c.args.numbered.few in
    record {
      node = omega (arith, numbered c, ap (λ (w : Net). nodes w) e);
      few = omega arith;
      named = leaf-count net m c.args.numbered.leaves.items c.args.numbered.list ∙ sym i;
    }

pub returns : goal.returns
returns c =
    let r = c.args.numbered.region in
    let net = net_of r.network.now in
    let k : c.len.result ≡ length (leaves_of net (has r.members)) = omega (arith, c.len.ensures, leaf-count net (has r.members) c.args.numbered.leaves.items c.args.numbered.list) in
    let n = target-new net (has r.members) r.node c.node_signal-signal.result.0 c.of.result.0 c.len.result (new_at c.args.numbered.numbers) (members-of r) c.args.numbered.numbered
    c.node_signal-signal.ensures.value (ap (λ (x : Signal). x.0) c.of.ensures) k in
    record { network = c.in_ok-network.ensures; target = omega arith; leaves = c.args.numbered.list }
