-- The members around a node.
use Rattle.std.specs.Prelude.{◌≡◌, ℕ, ◌<◌, false}
use Rattle.network.specs.Nets.{Net, nodes}
use Rattle.network.specs.Parts.{net_of}
use Rattle.window.specs.Scopes.{too_high, member_of}
use Rattle.window.specs.Sets.{has}
use Rattle.window.specs.declared.scope.Scope.{Scope}
use Rattle.window.specs.declared.region.Region.{Region}

-- the region has node t and the members that the scope gives it, and is not refused
pub record IsRegion (net : Net) (t : ℕ) (scope : Scope) (r : Region) : Type 0 where
  pub network : net_of r.network.now ≡ net
  pub node : r.node ≡ t
  pub members : (s : ℕ) → has r.members s ≡ member_of net t scope s
  pub inside : t < nodes net
  pub low : too_high scope ≡ false
