use Rattle.std.proofs.Common.{take}
use Rattle.cover.specs.Cubes.{in_cover}
use Rattle.cover.specs.Tables.{IsSet}
use Rattle.cover.proofs.function.united.Given as goal

abbrev pub invariant-loop-cube : goal.invariant-loop-cube
invariant-loop-cube l = IsSet l.all (in_cover (take l.cube-index l.cubes))
