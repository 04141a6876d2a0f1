-- What a numbered region keeps.
use Rattle.network.specs.Parts.{net_of}
use Rattle.context.specs.Windows.{Members}
use Rattle.window.specs.Sets.{has}
use Rattle.window.specs.Numbers.{Ready}
use Rattle.window.specs.declared.region.Region.{Region}
use Rattle.window.specs.declared.numbered.Numbered.{Numbered}

pub members-of : (r : Region) → Members (net_of r.network.now) (has r.members) r.node
members-of r = record { above = r.above; inside = r.inside; held = r.held }

pub ready-of : (n : Numbered) → Ready (net_of n.region.network.now) (has n.region.members) n.region.node
ready-of n = record { members = members-of n.region; few = n.few }
