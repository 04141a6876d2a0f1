-- What lies within some edges of a set of signals, and which nodes a window has.
use Rattle.std.specs.Prelude.{◌≡◌, ℕ, zero, suc, ◌+◌, ◌<◌, ◌≤◌, Bool, ◌&&◌, ◌||◌, ◌⊎◌, ◌==◌, nat_eq, nat_le, nat_lt}
use Rattle.network.specs.Rows.{fanin}
use Rattle.network.specs.Nets.{Net, nodes, size, row_at}
use Rattle.network.specs.declared.row.Row.{Row}
use Rattle.context.specs.Care.{any_below}

-- an edge leads from a to b: signal a is a fanin of the node with signal b
pub record Edge (net : Net) (a b : ℕ) : Type 0 where
  pub node : ℕ
  pub place : ℕ
  pub inside : node < nodes net
  pub used : place < (row_at net node).count
  pub head : net.inputs + node ≡ b
  pub tail : fanin (row_at net node) place ≡ a

-- a path of at most d edges leads from a to b
abbrev pub PathWithin : Net → ℕ → ℕ → ℕ → Type 0
PathWithin net zero a b = a ≡ b
PathWithin net (suc d) a b = (a ≡ b) ⊎ ((c : ℕ) × Edge net a c × PathWithin net d c b)

-- In(X, d): the signals from which some signal of X is reached in at most d edges
abbrev pub In : Net → (ℕ → Type 0) → ℕ → ℕ → Type 0
In net X d s = (b : ℕ) × X b × PathWithin net d s b

-- Out(X, d): the signals that are reached from some signal of X in at most d edges
abbrev pub Out : Net → (ℕ → Type 0) → ℕ → ℕ → Type 0
Out net X d s = (a : ℕ) × X a × PathWithin net d a s

-- signal s is a node
abbrev pub IsNode : Net → ℕ → Type 0
IsNode net s = (net.inputs ≤ s) × (s < size net)

-- signal s is a member of the window of signal T with levels p and q: a node in both In(Out({T}, q), p + q) and Out(In({T}, p), p + q)
pub record Within (net : Net) (T p q s : ℕ) : Type 0 where
  pub node : IsNode net s
  pub into : In net (Out net (λ a. a ≡ T) q) (p + q) s
  pub outof : Out net (In net (λ b. b ≡ T) p) (p + q) s

-- signal s is a fanin of the row
abbrev pub is_fanin : Row → ℕ → Bool
is_fanin r s = any_below r.count (λ i. nat_eq (fanin r i) s)

-- In(X, d), one edge after another
unfoldable pub into : Net → (ℕ → Bool) → ℕ → ℕ → Bool
into net X zero s = X s
into net X (suc d) s = into net X d s || any_below (nodes net) (λ n. into net X d (net.inputs + n) && is_fanin (row_at net n) s)

-- Out(X, d), one edge after another
unfoldable pub outof : Net → (ℕ → Bool) → ℕ → ℕ → Bool
outof net X zero s = X s
outof net X (suc d) s = outof net X d s || any_below (nodes net) (λ n. (net.inputs + n == s) && any_below (row_at net n).count (λ i. outof net X d (fanin (row_at net n) i)))

-- the members of the whole context: all nodes
abbrev pub whole : Net → ℕ → Bool
whole net s = nat_le net.inputs s && nat_lt s (size net)

-- the members of the window of signal T with levels p and q
abbrev pub windowed : Net → ℕ → ℕ → ℕ → ℕ → Bool
windowed net T p q s = whole net s && (into net (outof net (nat_eq T) q) (p + q) s && outof net (into net (nat_eq T) p) (p + q) s)
