-- What holds of the cubes that were gathered, in whatever order the literals were tried.
use Rattle.std.proofs.Common.{◌≡◌, ℕ, ◌^◌, ◌<◌, Bool, true, false, cond, List, [], ◌∷◌, refl, ◌∙◌, subst, ap₂, ⊎_elim, arith}
use Rattle.std.specs.List.{ContainsAt as Has}
use Rattle.std.proofs.lemmas.Bool.{or_left, or_right, both_ways}
use Rattle.std.proofs.lemmas.Bool.Decides.{nat_tests}
use Rattle.roll.specs.Rolls.{entered, ascending}
use Rattle.roll.proofs.Members.{has-none, has_here, has_there, has-cases}
use Rattle.roll.proofs.Places.{Transitive, Connected}
use Rattle.roll.proofs.Rising.{entered-rising, has-entered}
use Rattle.cover.specs.Cubes.{in_cube, in_cover, start, cube_below}
use Rattle.cover.specs.Covers.{touches, expanded, gathered}
use Rattle.cover.specs.Laws.{Tries, IsCube}
use Rattle.cover.specs.declared.cube.Cube.{Cube}
use Rattle.cover.proofs.Strikes.{in-expanded, in_start}
use Rattle.cover.proofs.Gathering.{in_cover-has, in_cover-entered}
use Rattle.cover.proofs.Primes.{Tried, tried-all, expanded-off, expanded-cube, start-cube}

-- a cube that holds no off-minterm and of which no literal can go
pub record Good (f : ℕ) (off : List ℕ) (c : Cube) : Type 0 where
  pub clear : touches off c ≡ false
  pub tried : (i : ℕ) → i < f → Tried off i c
  pub cube : IsCube f c

-- each is a minterm, and not among the off-minterms
abbrev pub Apart : ℕ → List ℕ → List ℕ → Type 0
Apart f off on = (y : ℕ) → Has on y → (y < 2 ^ f) × (touches off (start f y) ≡ false)

-- each cube is good
abbrev pub AllGood : ℕ → List ℕ → List Cube → Type 0
AllGood f off cs = (c : Cube) → Has cs c → Good f off c

expanded-good : (f : ℕ) (off order : List ℕ) (y : ℕ) → Tries f order → y < 2 ^ f → touches off (start f y) ≡ false → Good f off (expanded off order (start f y))
expanded-good f off order y t h e =
    record {
      clear = expanded-off off order (start f y) e;
      tried = λ i l. tried-all off order i (start f y) (t i l);
      cube = expanded-cube f off order (start f y) (start-cube f y h);
    }

-- the cubes after one on-minterm
abbrev after : ℕ → List ℕ → List ℕ → ℕ → List Cube → List Cube
after f order off y cs = cond (in_cover cs y) cs (entered cube_below (expanded off order (start f y)) cs)

after-good : (f : ℕ) (order off : List ℕ) (y : ℕ) (cs : List Cube) → Good f off (expanded off order (start f y)) → AllGood f off cs → AllGood f off (after f order off y cs)
after-good f order off y cs n g =
    let big = expanded off order (start f y) in
    let P : Bool → Type 0 = λ b. AllGood f off (cond b cs (entered cube_below big cs)) in
    elim (in_cover cs y) as P [ true ↦ g | false ↦ (λ c h. ⊎_elim (λ e. subst (Good f off) e n) (g c) (has-entered cube_below big c cs h)) ]

pub gathered-good : (f : ℕ) (order off on : List ℕ) (cs : List Cube) → Tries f order → Apart f off on → AllGood f off cs → AllGood f off (gathered f order off on cs)
gathered-good f order off [] cs t a g = g
gathered-good f order off (y ∷ on) cs t a g =
    let h = a y (has_here y y on refl) in
    gathered-good f order off on (after f order off y cs) t (λ z k. a z (has_there y z on k)) (after-good f order off y cs (expanded-good f off order y t h.0 h.1) g)

-- what is in a cube stays in one
after-keeps : (f : ℕ) (order off : List ℕ) (y : ℕ) (cs : List Cube) (z : ℕ) → in_cover cs z ≡ true → in_cover (after f order off y cs) z ≡ true
after-keeps f order off y cs z h =
    let big = expanded off order (start f y) in
    let P : Bool → Type 0 = λ b. in_cover (cond b cs (entered cube_below big cs)) z ≡ true in
    elim (in_cover cs y) as P [ true ↦ h | false ↦ in_cover-entered big cs z ∙ or_right (in_cube big z) (in_cover cs z) h ]

after_holds : (f : ℕ) (order off : List ℕ) (y : ℕ) (cs : List Cube) → y < 2 ^ f → in_cover (after f order off y cs) y ≡ true
after_holds f order off y cs h =
    let big = expanded off order (start f y) in
    let P : Bool → Type 0 = λ b. in_cover cs y ≡ b → in_cover (cond b cs (entered cube_below big cs)) y ≡ true in
    let p : P (in_cover cs y) = elim (in_cover cs y) as P [ true ↦ (λ e. e) | false ↦ (λ _. in_cover-entered big cs y ∙ or_left (in_cube big y) (in_cover cs y) (in-expanded off order (start f y) y (in_start f y h))) ] in
    p refl

gathered-keeps : (f : ℕ) (order off on : List ℕ) (cs : List Cube) (z : ℕ) → in_cover cs z ≡ true → in_cover (gathered f order off on cs) z ≡ true
gathered-keeps f order off [] cs z h = h
gathered-keeps f order off (y ∷ on) cs z h = gathered-keeps f order off on (after f order off y cs) z (after-keeps f order off y cs z h)

pub gathered-holds : (f : ℕ) (order off on : List ℕ) (cs : List Cube) → Apart f off on → (z : ℕ) → Has on z → in_cover (gathered f order off on cs) z ≡ true
gathered-holds f order off [] cs a z h = absurd (has-none z h)
gathered-holds f order off (y ∷ on) cs a z h =
    ⊎_elim
    (λ e. gathered-keeps f order off on (after f order off y cs) z (subst (λ k. in_cover (after f order off y cs) k ≡ true) e (after_holds f order off y cs (a y (has_here y y on refl)).0)))
    (gathered-holds f order off on (after f order off y cs) (λ w k. a w (has_there y w on k)) z)
    (has-cases y z on h)

cube-transitive : Transitive cube_below
cube-transitive c d e p q = grind (arith, nat_tests)

cube-connected : Connected cube_below
cube-connected c d p q =
    let m : c.mask ≡ d.mask = grind (arith, nat_tests) in
    let v : c.values ≡ d.values = grind (arith, nat_tests) in
    ap₂ (λ (m v : ℕ). let r : Cube = record { mask = m; values = v } in r) m v

-- the cubes stay ascending
pub gathered-rising : (f : ℕ) (order off on : List ℕ) (cs : List Cube) → Apart f off on → ascending cube_below cs ≡ true → ascending cube_below (gathered f order off on cs) ≡ true
gathered-rising f order off [] cs a r = r
gathered-rising f order off (y ∷ on) cs a r =
    let h = (a y (has_here y y on refl)).0 in
    let big = expanded off order (start f y) in
    let held : in_cube big y ≡ true = in-expanded off order (start f y) y (in_start f y h) in
    let P : Bool → Type 0 = λ b. in_cover cs y ≡ b → ascending cube_below (cond b cs (entered cube_below big cs)) ≡ true in
    let p : P (in_cover cs y) = elim (in_cover cs y) as P
    [ true ↦ (λ _. r) | false ↦ (λ e. entered-rising cube_below cube-transitive cube-connected big cs (λ k. both_ways (in_cover cs y) e (in_cover-has cs big y k held)) r) ] in
    gathered-rising f order off on (after f order off y cs) (λ w k. a w (has_there y w on k)) (p refl)
