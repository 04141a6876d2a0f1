-- Plain bits as values.
use Rattle.std.specs.Prelude.{◌≡◌, Bool, cond}
use Rattle.logic.specs.Lanes.{LaneRow}

abbrev pub bit_admits : Bool → LaneRow → Type 0
bit_admits v a = v ≡ a 0

abbrev pub bit_is : Bool → Bool
bit_is b = b

abbrev pub bit_pick : Bool → Bool → Bool → Bool
bit_pick s h l = cond s h l
