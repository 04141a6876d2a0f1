use Rattle.network.specs.Parts.{net_of}
use Rattle.network.proofs.Nets.{legal-net}
use Rattle.window.proofs.Built.{by-paths, built-so, same-values, same-inverted, free-exactly, free-soundly, free-in-whole, own-function, safe-so, harmful}
use Rattle.window.proofs.extracted.Context.build.Goals as goal

pub returns : goal.returns
returns c =
    let net = net_of c.args.network.now in
    let t = c.args.node in
    let scope = c.args.scope in
    let legal = legal-net c.args.network.now in
    let r = c.judge.result in
    let b = c.judge.ensures in
    record {
      builds = b;
      paths = by-paths net t scope;
      values = built-so net t scope _ (same-values net t scope legal) r b;
      inverted = built-so net t scope _ (same-inverted net t scope legal) r b;
      exact = built-so net t scope _ (free-exactly net t scope legal) r b;
      sound = built-so net t scope _ (free-soundly net t scope legal) r b;
      whole = built-so net t scope _ (free-in-whole net t scope legal) r b;
      own = built-so net t scope _ (own-function net t scope legal) r b;
      safe = built-so net t scope _ (safe-so net t scope legal) r b;
      harm = built-so net t scope _ (harmful net t scope legal) r b;
    }
