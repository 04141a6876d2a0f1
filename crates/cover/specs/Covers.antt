-- The cover of a function on its care set. Elsewhere f is a number of fanins.
use Rattle.std.specs.Prelude.{ℕ, ◌^◌, Bool, true, false, cond, not, ◌&&◌, ◌||◌, List, [], ◌∷◌, ◌++◌, filter}
use Rattle.std.specs.List.{range_with_len, list_any, list_all}
use Rattle.network.specs.Rows.{bit_of}
use Rattle.roll.specs.Rolls.{entered}
use Rattle.cover.specs.Cubes.{in_cube, in_cover, struck, start, cube_below}
use Rattle.cover.specs.declared.care.CareFunction.{CareFunction}
use Rattle.cover.specs.declared.cube.Cube.{Cube}

-- y is care, and the function's value at it is b
abbrev pub care_with : Bool → CareFunction → ℕ → Bool
care_with true target y = bit_of target.care y && bit_of target.function y
care_with false target y = bit_of target.care y && not (bit_of target.function y)

-- the minterms that are care with function 1, ascending
unfoldable pub minterms_on : CareFunction → List ℕ
minterms_on target = filter (care_with true target) (range_with_len 0 (2 ^ target.fanins.count))

-- the minterms that are care with function 0, ascending
unfoldable pub minterms_off : CareFunction → List ℕ
minterms_off target = filter (care_with false target) (range_with_len 0 (2 ^ target.fanins.count))

-- one of the minterms is in the cube
abbrev pub touches : List ℕ → Cube → Bool
touches ys c = list_any (in_cube c) ys

-- fanins are tried in the order given: a literal goes if the larger cube holds no off-minterm
abbrev pub expanded : List ℕ → List ℕ → Cube → Cube
expanded off [] c = c
expanded off (i ∷ order) c = expanded off order (cond (touches off (struck c i)) c (struck c i))

-- each on-minterm that is in no cube yet is expanded, and the cube is entered among those there are
abbrev pub gathered : ℕ → List ℕ → List ℕ → List ℕ → List Cube → List Cube
gathered f order off [] cs = cs
gathered f order off (y ∷ on) cs = gathered f order off on (cond (in_cover cs y) cs (entered cube_below (expanded off order (start f y)) cs))

-- each on-minterm in c is in one of the others
abbrev pub spare : List ℕ → Cube → List Cube → Bool
spare on c others = list_all (λ y. not (in_cube c y) || in_cover others y) on

-- in list order a cube goes if its on-minterms all lie in others still there; ks stay
abbrev pub pruned : List ℕ → List Cube → List Cube → List Cube
pruned on ks [] = ks
pruned on ks (c ∷ cs) = cond (spare on c (ks ++ cs)) (pruned on ks cs) (pruned on (ks ++ c ∷ []) cs)

-- the cover, with the order in which literals are tried
unfoldable pub cover_of : CareFunction → List ℕ → List Cube
cover_of target order = pruned (minterms_on target) [] (gathered target.fanins.count order (minterms_off target) (minterms_on target) [])
