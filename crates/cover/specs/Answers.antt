-- What the call that computes a cover answers.
use Rattle.std.specs.Prelude.{◌≡◌, ℕ, ◌-◌, ◌^◌, ◌<◌, ◌≤◌, List, ◌++◌, length, drop, replicate, Ok, Err, Result}
use Rattle.std.specs.List.{range_with_len}
use Rattle.cover.specs.Cubes.{literals, no_cube}
use Rattle.cover.specs.Covers.{cover_of}
use Rattle.cover.specs.declared.care.CareFunction.{CareFunction}
use Rattle.cover.specs.declared.cube.Cube.{Cube}
use Rattle.cover.specs.declared.cover.CoverError.{CoverError}
use Rattle.cover.specs.declared.cover.CoverError.TheVariants.{Short}

-- the number of a cause
abbrev pub number_of : CoverError → ℕ
number_of Short = 17

-- the cover with the fanins tried from 0 upward
abbrev pub rising_cover : CareFunction → List Cube
rising_cover target = cover_of target (range_with_len 0 target.fanins.count)

-- cubes at the front, cleared places up to n, and what stood behind those
abbrev pub laid_out : List Cube → ℕ → List Cube → List Cube
laid_out cs n before = cs ++ (replicate (n - length cs) no_cube ++ drop n before)

-- the list has the cover, and the answer is how many cubes and literals it has; or there are too few places, and nothing changes
abbrev pub Covering : CareFunction → List Cube → Result (ℕ × ℕ) CoverError → List Cube → Type 0
Covering target before (Ok p) after =
    (2 ^ target.fanins.count ≤ length before) × (p.0 ≡ length (rising_cover target)) × (p.1 ≡ literals (rising_cover target)) × (after ≡ laid_out (rising_cover target) (2 ^ target.fanins.count) before)
Covering target before (Err e) after = (e ≡ Short) × (length before < 2 ^ target.fanins.count) × (after ≡ before)
