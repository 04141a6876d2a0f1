-- A cube with fewer literals.
use Rattle.std.proofs.Common.{◌≡◌, ℕ, ◌-◌, ◌^◌, ◌<◌, Bool, true, false, cond, List, [], ◌∷◌, sym, ap, ◌∙◌, mod-eq_of_lt}
use lib.Bits.{bit_and, and_mask}
use Rattle.std.proofs.lemmas.Bool.{eq-eqb, eqb-true}
use Rattle.cover.specs.Cubes.{in_cube, part, struck, start}
use Rattle.cover.specs.Covers.{touches, expanded}
use Rattle.cover.specs.declared.cube.Cube.{Cube}
use Rattle.std.proofs.lemmas.Nat.{and_assoc}

-- fewer literals hold more
pub in-part : (c : Cube) (k y : ℕ) → in_cube c y ≡ true → in_cube (part c k) y ≡ true
in-part c k y h =
    eq-eqb (bit_and y (bit_and c.mask k)) (bit_and c.values k)
    (sym (and_assoc k y c.mask) ∙ ap (λ (v : ℕ). bit_and v k) (eqb-true (bit_and y c.mask) c.values h))

pub in-expanded : (off order : List ℕ) (c : Cube) (y : ℕ) → in_cube c y ≡ true → in_cube (expanded off order c) y ≡ true
in-expanded off [] c y h = h
in-expanded off (i ∷ order) c y h =
    let P : Bool → Type 0 = λ b. in_cube (expanded off order (cond b c (struck c i))) y ≡ true in
    elim (touches off (struck c i)) as P [ true ↦ in-expanded off order c y h | false ↦ in-expanded off order (struck c i) y (in-part c (2 ^ 16 - 1 - 2 ^ i) y h) ]

pub in_start : (f y : ℕ) → y < 2 ^ f → in_cube (start f y) y ≡ true
in_start f y h = eq-eqb (bit_and y (2 ^ f - 1)) y (and_mask y f ∙ mod-eq_of_lt h)
