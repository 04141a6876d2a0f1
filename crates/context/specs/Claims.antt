-- What is proved of a node in a context; src/lib.rt says in which.
use Rattle.std.specs.Prelude.{◌≡◌, ℕ, ◌^◌, ◌<◌, true, Decides, ◌≢◌}
use Rattle.network.specs.Rows.{bit_of}
use Rattle.network.specs.Nets.{Net, nodes, row_at, replaced}
use Rattle.network.specs.declared.row.Function.{Function}
use Rattle.theory.specs.Same.{SameOutputs}
use Rattle.context.specs.Care.{care, free, CDC, SameOnCare, Differ}

-- node t of net is node t' of win, which stands for the context
pub record ContextRules (net : Net) (t : ℕ) (win : Net) (t' : ℕ) : Type 0 where
  -- a minterm is free exactly if it is a complete don't-care of the context read as a network
  pub exact : (y : ℕ) → Decides (free win t' y) (CDC win t' y)
  -- each is a complete don't-care of the network, too
  pub sound : (y : ℕ) → free win t' y ≡ true → CDC net t y
  -- a care minterm has as many bits as the node has fanins
  pub small : (y : ℕ) → care win t' y ≡ true → y < 2 ^ (row_at net t).count
  -- two functions with the same value at every care minterm give networks with the same outputs
  pub safe : (f g : Function) → SameOnCare win t' f g → SameOutputs (replaced net t f) (replaced net t g)

-- node t of net is node t of win, which stands for the whole network
pub record WholeRules (net : Net) (t : ℕ) (win : Net) : Type 0 where
  -- as many nodes
  pub nodes : nodes win ≡ nodes net
  -- a minterm is free exactly if it is a complete don't-care of the network over all its primary inputs
  pub exact : (y : ℕ) → Decides (free win t y) (CDC net t y)
  -- two functions with the same value at every care minterm give networks with the same outputs
  pub safe : (f g : Function) → SameOnCare win t f g → SameOutputs (replaced net t f) (replaced net t g)
  -- and no others do
  pub only : (f g : Function) → SameOutputs (replaced net t f) (replaced net t g) → SameOnCare win t f g
  -- two functions that differ at some care minterm give networks that differ in some output under some assignment
  pub harm : (f g : Function) (y : ℕ) → care win t y ≡ true → (bit_of f y ≢ bit_of g y) → Differ (replaced net t f) (replaced net t g)
