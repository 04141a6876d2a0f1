-- Cubes for every on-minterm, one minterm on.
use Rattle.std.proofs.Common.{◌≡◌, ℕ, suc, ◌+◌, ◌-◌, ◌<◌, ◌≤◌, Bool, true, false, cond, not, ◌&&◌, ◌||◌, List, [], ◌∷◌, length, take, drop, filter, sym, refl, ap, ◌∙◌, subst, ap₂, ⊎_elim, le_of_lt, add-one, arith}
use native.Mathlib.Nat.{sub-zero}
use Rattle.std.specs.List.{range_with_len, ContainsAt as Has}
use Rattle.std.proofs.lemmas.List.{length-take-le}
use Rattle.std.proofs.lemmas.Slice.{drop-append-drop}
use Rattle.std.proofs.lemmas.Bool.{and_parts, and_cases, cond-true, cond-false, not-true, not-false, or_left, or_right, both_ways, cases_Bool}
use Rattle.network.specs.Limits.{minterms}
use Rattle.network.specs.Rows.{bit_of}
use Rattle.network.specs.declared.row.Function.{Function}
use Rattle.roll.specs.Rolls.{entered}
use Rattle.roll.specs.Adding.{Adds, grown}
use Rattle.roll.specs.declared.added.Added.{Added}
use Rattle.roll.specs.declared.added.Added.TheVariants.{Entered, Present, Full}
use Rattle.roll.proofs.Members.{has-none, has-cases}
use Rattle.roll.proofs.Adds.{entries-after, adds-length}
use Rattle.roll.proofs.Rising.{length-entered}
use Rattle.cover.specs.Cubes.{in_cube, in_cover, start, cube_below}
use Rattle.cover.specs.Tables.{IsSet, members_below}
use Rattle.cover.specs.Covers.{expanded, gathered}
use Rattle.std.proofs.Math.Bool.{and-true}
use Rattle.cover.specs.declared.cube.Cube.{Cube}

-- the on-minterms below y are seen, and the first `count` places are their cubes; there are n minterms
pub record Gathers (f n : ℕ) (off : List ℕ) (on left : Function) (first places : List Cube) (count y : ℕ) : Type 0 where
  pub few : count ≤ y
  pub whole : gathered f (range_with_len 0 f) off (filter (bit_of on) (range_with_len y (n - y))) (take count places) ≡ gathered f (range_with_len 0 f) off (members_below n on) []
  pub bare : IsSet left (λ z. bit_of on z && not (in_cover (take count places) z))
  pub long : length places ≡ length first
  pub rest : drop n places ≡ drop n first

abbrev seen : ℕ → List ℕ → Function → ℕ → ℕ → List Cube → List Cube
seen f off on y k cs = gathered f (range_with_len 0 f) off (filter (bit_of on) (range_with_len y k)) cs

next-minterm : (f n : ℕ) (off : List ℕ) (on : Function) (y : ℕ) (cs : List Cube) → y < n → seen f off on y (n - y) cs ≡ seen f off on y (suc (n - (y + 1))) cs
next-minterm f n off on y cs h = let e : n - y ≡ suc (n - (y + 1)) = omega arith in ap (λ k. seen f off on y k cs) e

-- the next minterm is no on-minterm
no-on : (f n : ℕ) (off : List ℕ) (on : Function) (y : ℕ) (cs : List Cube) → y < n → bit_of on y ≡ false → seen f off on y (n - y) cs ≡ seen f off on (y + 1) (n - (y + 1)) cs
no-on f n off on y cs h e =
    let rest = filter (bit_of on) (range_with_len (y + 1) (n - (y + 1))) in
    next-minterm f n off on y cs h ∙ ap (λ ys. gathered f (range_with_len 0 f) off ys cs) (cond-false (bit_of on y) (y ∷ rest) rest e)

-- the next minterm is an on-minterm
one_on : (f n : ℕ) (off : List ℕ) (on : Function) (y : ℕ) (cs : List Cube) → y < n → bit_of on y ≡ true
    → seen f off on y (n - y) cs ≡ seen f off on (y + 1) (n - (y + 1)) (cond (in_cover cs y) cs (entered cube_below (expanded off (range_with_len 0 f) (start f y)) cs))
one_on f n off on y cs h e =
    let rest = filter (bit_of on) (range_with_len (y + 1) (n - (y + 1))) in
    next-minterm f n off on y cs h ∙ ap (λ ys. gathered f (range_with_len 0 f) off ys cs) (cond-true (bit_of on y) (y ∷ rest) rest e)

-- an on-minterm that is in a cube already, or no on-minterm
pub gathers-skip : (f n : ℕ) (off : List ℕ) (on left : Function) (first places : List Cube) (count y : ℕ) → n ≤ minterms → y < n → bit_of left y ≡ false
    → Gathers f n off on left first places count y → Gathers f n off on left first places count (y + 1)
gathers-skip f n off on left first places count y l h e g =
    let cs = take count places in
    let t : (bit_of on y && not (in_cover cs y)) ≡ false = sym (g.bare y (omega arith)) ∙ e in
    let few = g.few in
    let on-case : bit_of on y ≡ true → seen f off on y (n - y) cs ≡ seen f off on (y + 1) (n - (y + 1)) cs =
    λ o. let i : in_cover cs y ≡ true = ⊎_elim (λ x. absurd (both_ways (bit_of on y) x o)) (λ x. not-false (in_cover cs y) x) (and_cases (bit_of on y) (not (in_cover cs y)) t) in
    one_on f n off on y cs h o ∙ ap (seen f off on (y + 1) (n - (y + 1))) (cond-true (in_cover cs y) cs (entered cube_below (expanded off (range_with_len 0 f) (start f y)) cs) i) in
    let same : seen f off on y (n - y) cs ≡ seen f off on (y + 1) (n - (y + 1)) cs = ⊎_elim on-case (no-on f n off on y cs h) (cases_Bool (bit_of on y)) in
    record { few = omega arith; whole = sym same ∙ g.whole; bare = g.bare; long = g.long; rest = g.rest }

pub in_cover-has : (cs : List Cube) (c : Cube) (y : ℕ) → Has cs c → in_cube c y ≡ true → in_cover cs y ≡ true
in_cover-has [] c y h e = absurd (has-none c h)
in_cover-has (d ∷ ds) c y h e =
    ⊎_elim (λ s. or_left (in_cube d y) (in_cover ds y) (ap (λ x. in_cube x y) s ∙ e)) (λ k. or_right (in_cube d y) (in_cover ds y) (in_cover-has ds c y k e)) (has-cases d c ds h)

or_swap : (a b c : Bool) → (a || (b || c)) ≡ (b || (a || c))
or_swap true true c = refl
or_swap true false c = refl
or_swap false true c = refl
or_swap false false c = refl

pub in_cover-entered : (c : Cube) (cs : List Cube) (y : ℕ) → in_cover (entered cube_below c cs) y ≡ (in_cube c y || in_cover cs y)
in_cover-entered c [] y = refl
in_cover-entered c (d ∷ ds) y =
    let P : Bool → Type 0 = λ b. in_cover (cond b (d ∷ entered cube_below c ds) (c ∷ d ∷ ds)) y ≡ (in_cube c y || (in_cube d y || in_cover ds y)) in
    elim (cube_below d c) as P [ true ↦ ap (λ b. in_cube d y || b) (in_cover-entered c ds y) ∙ or_swap (in_cube d y) (in_cube c y) (in_cover ds y) | false ↦ refl ]

less : (a b c : Bool) → (a && not b && not c) ≡ (a && not (c || b))
less true true true = refl
less true true false = refl
less true false true = refl
less true false false = refl
less false b c = refl

-- an on-minterm that is in no cube: its cube is entered
gathers-add : (f n : ℕ) (off : List ℕ) (on left less : Function) (first places after : List Cube) (count y : ℕ) (cube : Cube) (r : Added) → n ≤ minterms → n ≤ length first → y < n
    → bit_of left y ≡ true → cube ≡ expanded off (range_with_len 0 f) (start f y) → in_cube cube y ≡ true → IsSet less (λ z. bit_of left z && not (in_cube cube z))
    → Adds cube_below cube count places r after
    → Gathers f n off on left first places count y → Gathers f n off on less first after (count + grown r) (y + 1)
gathers-add f n off on left less₀ first places after count y cube Present l room h e x i s a g =
    let t = and_parts (bit_of on y) (not (in_cover (take count places) y)) (sym (g.bare y (omega arith)) ∙ e) in
    absurd (both_ways (in_cover (take count places) y) (not-true (in_cover (take count places) y) t.1) (in_cover-has (take count places) cube y a.0 i))
gathers-add f n off on left less₀ first places after count y cube Full l room h e x i s a g =
    let long = g.long in
    let few = g.few in
    let full = a.1 in
    absurd (omega arith)
gathers-add f n off on left less₀ first places after count y cube Entered l room h e x i s a g =
    let cs = take count places in
    let t = and_parts (bit_of on y) (not (in_cover cs y)) (sym (g.bare y (omega arith)) ∙ e) in
    let few = g.few in
    let es : take (count + 1) after ≡ entered cube_below cube cs = entries-after cube_below cube count places after a in
    let big = expanded off (range_with_len 0 f) (start f y) in
    let whole : seen f off on (y + 1) (n - (y + 1)) (take (count + 1) after) ≡ gathered f (range_with_len 0 f) off (members_below n on) [] =
    ap (seen f off on (y + 1) (n - (y + 1))) (es ∙ ap (λ c. entered cube_below c cs) x ∙ sym (cond-false (in_cover cs y) cs (entered cube_below big cs) (not-true (in_cover cs y) t.1)))
    ∙ sym (one_on f n off on y cs h t.0) ∙ g.whole in
    let m : length (entered cube_below cube cs) ≡ count + 1 = length-entered cube_below cube cs ∙ ap suc (length-take-le count places (le_of_lt a.1)) ∙ sym (add-one count) in
    record {
      few = omega arith;
      whole = whole;
      bare = λ z k. s z k ∙ ap (λ b. b && not (in_cube cube z)) (g.bare z k) ∙ less (bit_of on z) (in_cover cs z) (in_cube cube z) ∙ ap (λ b. bit_of on z && not b) (sym (in_cover-entered cube cs z) ∙ ap (λ ds. in_cover ds z) (sym es));
      long = adds-length cube_below cube count places after Entered a ∙ g.long;
      rest = ap (drop n) a.2 ∙ drop-append-drop (count + 1) places (entered cube_below cube cs) n (omega arith) m ∙ g.rest;
    }

pub gathers-added : (f n : ℕ) (off : List ℕ) (on left less : Function) (first places after : List Cube) (count count' y : ℕ) (cube : Cube) (r : Added) → n ≤ minterms → n ≤ length first → y < n
    → bit_of left y ≡ true → cube ≡ expanded off (range_with_len 0 f) (start f y) → in_cube cube y ≡ true → IsSet less (λ z. bit_of left z && not (in_cube cube z))
    → Adds cube_below cube count places r after → count' ≡ count + grown r
    → Gathers f n off on left first places count y → Gathers f n off on less first after count' (y + 1)
gathers-added f n off on left less₀ first places after count count' y cube r l room h e x i s a k g =
    subst (λ m. Gathers f n off on less₀ first after m (y + 1)) (sym k)
    (gathers-add f n off on left less₀ first places after count y cube r l room h e x i s a g)

-- nothing is seen yet
pub gathers-none : (f n : ℕ) (off : List ℕ) (on : Function) (places : List Cube) (count : ℕ) → count ≡ 0 → Gathers f n off on on places places count 0
unfolding members_below
gathers-none f n off on places count e =
    let z : take count places ≡ [] = ap (λ k. take k places) e in
    record {
      few = omega arith;
      whole = ap₂ (λ k cs. seen f off on 0 k cs) (sub-zero n) z;
      bare = λ y h. sym (ap (λ cs. bit_of on y && not (in_cover cs y)) z ∙ and-true (bit_of on y));
      long = refl;
      rest = refl;
    }
