use Rattle.std.proofs.Common.{◌≡◌, ◌-◌}
use Rattle.std.specs.List.{range_with_len}
use Rattle.cover.specs.Tables.{members}
use Rattle.cover.specs.Covers.{expanded}
use Rattle.cover.proofs.expand.expand.Given as goal

-- what is left to try gives the whole
abbrev pub invariant-loop-i : goal.invariant-loop-i
invariant-loop-i l = expanded (members l.off) (range_with_len l.i (l.i-end - l.i)) l.cube ≡ expanded (members l.off) (range_with_len 0 l.i-end) l.initial.cube
