-- What is proved of networks; src/lib.rt says of which.
use Rattle.std.specs.Prelude.{◌≡◌, ℕ, ◌+◌, ◌<◌, Bool, not, ◌⊎◌, None, Option}
use Rattle.network.specs.Nets.{Net, size, row_at}
use Rattle.network.specs.declared.row.Function.{Function}
use Rattle.theory.specs.Values.{Values, value, bit_read, target}

-- v agrees with the assignment and the rows, and whatever agrees with them is v
pub record Determined (turn : Option ℕ) (net : Net) (x v : ℕ → Bool) : Type 0 where
  pub agrees : Values turn net x v
  pub only : (w : ℕ → Bool) → Values turn net x w → (s : ℕ) → s < size net → w s ≡ v s

-- what the values v under the assignment x have to be, once node t has the function f
pub record AfterReplacing (net : Net) (t : ℕ) (f : Function) (x v : ℕ → Bool) : Type 0 where
  -- no signal below node t changes
  pub lower : (s : ℕ) → s < net.inputs + t → v s ≡ value None net x s
  -- f has the old value at the minterm that is read: nothing changes
  pub same : bit_read net t f x ≡ bit_read net t (row_at net t).function x → (s : ℕ) → s < size net → v s ≡ value None net x s
  -- f has the other value there: every signal is as if node t were inverted
  pub inverted : bit_read net t f x ≡ not (bit_read net t (row_at net t).function x) → (s : ℕ) → s < size net → v s ≡ value (target net t) net x s
  -- there is no third case
  pub either : (bit_read net t f x ≡ bit_read net t (row_at net t).function x) ⊎ (bit_read net t f x ≡ not (bit_read net t (row_at net t).function x))

-- a relation of networks that is an equivalence
pub record Equivalence (R : Net → Net → Type 0) : Type 0 where
  pub reflexive : (net : Net) → R net net
  pub symmetric : (net net' : Net) → R net net' → R net' net
  pub transitive : (net net' net'' : Net) → R net net' → R net' net'' → R net net''
