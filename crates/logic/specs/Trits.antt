-- Three-valued bits as values: `zero` says that the bit may be 0, and `one` that it may be 1.
use Rattle.std.specs.Prelude.{◌≡◌, ℕ, ◌<◌, Bool, true, false, cond, ◌&&◌, ◌||◌, T, List, Some, None, Option, slice_index_or}
use Rattle.logic.specs.Lanes.{LaneRow}
use Rattle.logic.specs.declared.trit.Trit.{Trit}

-- the row's bit is one that v may be
abbrev pub trit_admits : Trit → LaneRow → Type 0
trit_admits v a = cond (a 0) v.one v.zero ≡ true

-- the known bit b
abbrev pub trit_of : Bool → Trit
trit_of true = record { zero = false; one = true; some = tt }
trit_of false = record { zero = true; one = false; some = tt }

-- 0 or 1
abbrev pub unknown : Trit
unknown = record { zero = true; one = true; some = tt }

-- the first k values are the known bits of x
abbrev pub Known : List Trit → ℕ → (ℕ → Bool) → Type 0
Known vs k x = (i : ℕ) (d : Trit) → i < k → slice_index_or vs i d ≡ trit_of (x i)

-- the bit, if it is known
abbrev pub bit_known : Trit → Option Bool
bit_known v = cond (v.zero && v.one) None (Some v.one)

-- one of two may be something, if the first may
pub some-either : (a b c d : Bool) → T (a || b) → T ((a || c) || (b || d))
some-either true b c d h = tt
some-either false b true d h = tt
some-either false true false d h = tt
some-either false false false true h = tt
some-either false false false false h = h

-- what one of two may be: their common value if both are known and equal, else unknown
abbrev pub either : Trit → Trit → Trit
either h l = record { zero = h.zero || l.zero; one = h.one || l.one; some = some-either h.zero h.one l.zero l.one h.some }

-- h or l if s is known, else what one of them may be
abbrev pub trit_pick : Trit → Trit → Trit → Trit
trit_pick s h l = cond s.one (cond s.zero (either h l) h) l
