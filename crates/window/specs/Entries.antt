-- Leaves that are entered into a roll.
use Rattle.std.specs.Prelude.{◌≡◌, ℕ, ◌<◌, ◌≤◌, Bool, true, false, ◌||◌, List, map, length, take, Ok, Err, Result}
use Rattle.network.specs.Nets.{Net}
use Rattle.network.specs.declared.row.Signal.{Signal}
use Rattle.context.specs.Windows.{leaves_of}
use Rattle.context.specs.Extracts.{signal_of}
use Rattle.window.specs.Limits.{max_leaves}
use Rattle.window.specs.Lists.{listed}
use Rattle.window.specs.declared.leaf_list.LeafList.{LeafList}
use Rattle.window.specs.declared.refusal.ContextError.{ContextError}
use Rattle.window.specs.declared.refusal.ContextError.TheVariants.{NoNode, Level, Leaves, NoMemory}

-- the signals that are entered
abbrev pub entries_of : LeafList → List Signal
entries_of l = take l.roll.count l.roll.places.now

-- the entries are full: each was there before or is one of X, and one of X is missing
pub record Overfull (X : ℕ → Bool) (before after : List Signal) : Type 0 where
  pub full : max_leaves ≤ length after
  pub within : (s : ℕ) → listed after s ≡ true → (listed before s || X s) ≡ true
  pub missing : (z : ℕ) × (X z ≡ true) × (listed after z ≡ false)

-- the signals X are entered: all of them, or the entries are full, which is why there is no list of the leaves
abbrev pub Enters : (ℕ → Bool) → List Signal → Result Unit ContextError → List Signal → Type 0
Enters X before (Ok _) after = (s : ℕ) → listed after s ≡ (listed before s || X s)
Enters X before (Err NoNode) after = ⊥
Enters X before (Err Level) after = ⊥
Enters X before (Err Leaves) after = Overfull X before after
Enters X before (Err NoMemory) after = ⊥

-- why there is no list of the leaves
abbrev pub NoLeaves : Net → (ℕ → Bool) → ContextError → Type 0
NoLeaves net member NoNode = ⊥
NoLeaves net member Level = ⊥
NoLeaves net member Leaves = max_leaves < length (leaves_of net member)
NoLeaves net member NoMemory = length (leaves_of net member) ≤ max_leaves

-- the leaves, as signals
abbrev pub leaf_signals : Net → (ℕ → Bool) → List Signal
leaf_signals net member = map signal_of (leaves_of net member)

-- the signals are the leaves, no more than a context may have
pub record FoundLeaves (net : Net) (member : ℕ → Bool) (found : List Signal) : Type 0 where
  pub list : found ≡ leaf_signals net member
  pub few : length (leaves_of net member) ≤ max_leaves
