-- A network's invariant, as the statements have it.
use Rattle.network.specs.Nets.{LegalNet}
use Rattle.network.specs.Parts.{net_of}
use Rattle.network.specs.declared.network.Network.{Network}
use Rattle.network.proofs.Rows.{legal-of}

pub legal-net : (n : Network) → LegalNet (net_of n)
legal-net n = record { few_inputs = n.small; few_nodes = n.few; row = λ k h. legal-of (n.legal k h); exit = n.exits }
