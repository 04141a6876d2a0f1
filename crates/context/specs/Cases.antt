-- Worked cases: an AND and an OR of two inputs, and the exclusive OR of the two, which is the output.
use Rattle.std.specs.Prelude.{◌≡◌, ℕ, ◌+◌, ◌-◌, Bool, true, false, List, [], ◌∷◌, map, replicate}
use Rattle.network.specs.Limits.{max_fanins, function_bytes}
use Rattle.network.specs.Rows.{no_signal}
use Rattle.network.specs.Nets.{Net, replaced}
use Rattle.network.specs.declared.row.Function.{Function}
use Rattle.network.specs.declared.row.Row.{Row}
use Rattle.context.specs.Care.{care}
use Rattle.context.specs.Levels.{whole, windowed}
use Rattle.context.specs.Windows.{leaves_of, members_of, roots_of}
use Rattle.context.specs.Extracts.{signal_of, place_of, extract_of}

-- the function of two fanins with the given bits
abbrev pub table : ℕ → Function
table bits = record { bytes = bits ∷ replicate (function_bytes - 1) 0 }

-- the row that reads signals a and b
abbrev pub gate : ℕ → ℕ → ℕ → Row
gate a b bits = record { count = 2; fanins = signal_of a ∷ signal_of b ∷ replicate (max_fanins - 2) no_signal; function = table bits }

-- signals 2, 3 and 4 are the AND, the OR and the exclusive OR
abbrev pub xor_net : Net
xor_net = record { inputs = 2; rows = gate 0 1 8 ∷ gate 0 1 14 ∷ gate 2 3 6 ∷ []; outputs = signal_of 4 ∷ [] }

-- with the OR and not the AND in place of the exclusive OR: the two differ at a free minterm
abbrev pub shrunk_net : Net
shrunk_net = replaced xor_net 2 (table 4)

-- which of the four minterms of node t are care
abbrev pub cares : Net → ℕ → List Bool
cares net t = map (care net t) (0 ∷ 1 ∷ 2 ∷ 3 ∷ [])

-- which are care in its context with the given members
abbrev pub context_cares : Net → (ℕ → Bool) → ℕ → List Bool
context_cares net member t = cares (extract_of net member t) (place_of net member t)

-- the members, the leaves and the roots of that context
pub record Shape (net : Net) (member : ℕ → Bool) (t : ℕ) (ms ls rs : List ℕ) : Type 0 where
  pub nodes : members_of net member ≡ ms
  pub inputs : leaves_of net member ≡ ls
  pub outputs : roots_of net member (net.inputs + t) ≡ rs

-- what comes out for the network, and for the one after
pub record Cases (before after : Net) : Type 0 where
  -- the AND is never true where the OR is false
  pub last : cares before 2 ≡ true ∷ false ∷ true ∷ true ∷ []
  pub first : cares before 0 ≡ true ∷ true ∷ true ∷ true ∷ []
  -- then the AND may be true where both inputs are false, and the OR false where both are true
  pub then_first : cares after 0 ≡ false ∷ true ∷ true ∷ true ∷ []
  pub then_middle : cares after 1 ≡ true ∷ true ∷ true ∷ false ∷ []
  -- a window without the OR cannot know it, one with the OR does
  pub near : context_cares after (windowed after 2 0 1) 0 ≡ true ∷ true ∷ true ∷ true ∷ []
  pub far : context_cares after (windowed after 2 1 1) 0 ≡ false ∷ true ∷ true ∷ true ∷ []
  pub all : context_cares after (whole after) 0 ≡ false ∷ true ∷ true ∷ true ∷ []
  pub near_shape : Shape after (windowed after 2 0 1) 0 (2 ∷ 4 ∷ []) (0 ∷ 1 ∷ 3 ∷ []) (4 ∷ [])
  pub alone_shape : Shape after (windowed after 2 0 0) 0 (2 ∷ []) (0 ∷ 1 ∷ []) (2 ∷ [])
