-- Every literal of an expanded cube is needed, in whatever order the literals were tried.
use Rattle.std.proofs.Common.{◌≡◌, ℕ, ◌-◌, ◌^◌, ◌<◌, Bool, true, false, cond, not, ◌&&◌, ◌⊎◌, List, [], ◌∷◌, sym, refl, ap, ◌∙◌, subst, ap₂, inl, inr, ⊎_elim, lt_of_le_of_lt, mod-eq_of_lt}
use lib.Bits.{bit_and, and_comm, and_self, and_mask, and_le_l}
use lib.Pow.{ones_lt}
use Rattle.std.specs.List.{ContainsAt as Has}
use Rattle.std.proofs.lemmas.Bool.{or_cases, or_left, or_right, both_ways, not-true, eqb-true}
use Rattle.network.specs.Rows.{bit_at}
use Rattle.roll.proofs.Members.{has-none, has-cases}
use Rattle.cover.specs.Cubes.{in_cube, all_but, part, struck, start}
use Rattle.cover.specs.Covers.{touches, expanded}
use Rattle.cover.specs.Laws.{IsCube}
use Rattle.cover.specs.declared.cube.Cube.{Cube}
use Rattle.network.proofs.Bits.{computed, bit-and}
use Rattle.std.proofs.lemmas.Nat.{and_assoc}
use Rattle.cover.proofs.Strikes.{in-part}

-- a cube with fewer literals holds the minterms that the cube holds
touches-part : (off : List ℕ) (c : Cube) (k : ℕ) → touches off c ≡ true → touches off (part c k) ≡ true
touches-part [] c k h = h
touches-part (y ∷ off) c k h =
    ⊎_elim (λ e. or_left (in_cube (part c k) y) (touches off (part c k)) (in-part c k y e)) (λ e. or_right (in_cube (part c k) y) (touches off (part c k)) (touches-part off c k e)) (or_cases (in_cube c y) (touches off c) h)

swap : (m j k : ℕ) → bit_and (bit_and m j) k ≡ bit_and (bit_and m k) j
swap m j k = and_assoc k m j ∙ ap (bit_and m) (and_comm j k) ∙ sym (and_assoc j m k)

abbrev cube_of : ℕ → ℕ → Cube
cube_of m v = record { mask = m; values = v }

part-comm : (c : Cube) (j k : ℕ) → part (part c j) k ≡ part (part c k) j
part-comm c j k = ap₂ cube_of (swap c.mask j k) (swap c.values j k)

part-twice : (c : Cube) (k : ℕ) → part (part c k) k ≡ part c k
part-twice c k =
    let e : (m : ℕ) → bit_and (bit_and m k) k ≡ bit_and m k = λ m. and_assoc k m k ∙ ap (bit_and m) (and_self k) in
    ap₂ cube_of (e c.mask) (e c.values)

-- the literal on fanin i cannot go, or is gone
abbrev pub Tried : List ℕ → ℕ → Cube → Type 0
Tried off i c = (touches off (struck c i) ≡ true) ⊎ (struck c i ≡ c)

-- c after fanin j was tried
abbrev next : List ℕ → ℕ → Cube → Cube
next off j c = cond (touches off (struck c j)) c (struck c j)

tried_here : (off : List ℕ) (i : ℕ) (c : Cube) → Tried off i (next off i c)
tried_here off i c =
    let P : Bool → Type 0 = λ b. touches off (struck c i) ≡ b → Tried off i (cond b c (struck c i)) in
    let p : P (touches off (struck c i)) = elim (touches off (struck c i)) as P [ true ↦ (λ e. inl e) | false ↦ (λ _. inr (part-twice c (all_but i))) ] in
    p refl

tried-next : (off : List ℕ) (i j : ℕ) (c : Cube) → Tried off i c → Tried off i (next off j c)
tried-next off i j c t =
    let P : Bool → Type 0 = λ b. Tried off i (cond b c (struck c j)) in
    elim (touches off (struck c j)) as P [
      | true ↦ t
      | false ↦ ⊎_elim
          (λ u. inl (ap (touches off) (part-comm c (all_but j) (all_but i)) ∙ touches-part off (struck c i) (all_but j) u))
          (λ u. inr (part-comm c (all_but j) (all_but i) ∙ ap (λ (d : Cube). struck d j) u)) t
    ]

tried-kept : (off order : List ℕ) (i : ℕ) (c : Cube) → Tried off i c → Tried off i (expanded off order c)
tried-kept off [] i c t = t
tried-kept off (j ∷ order) i c t = tried-kept off order i (next off j c) (tried-next off i j c t)

-- each fanin of the order was tried
pub tried-all : (off order : List ℕ) (i : ℕ) (c : Cube) → Has order i → Tried off i (expanded off order c)
tried-all off [] i c h = absurd (has-none i h)
tried-all off (j ∷ order) i c h =
    ⊎_elim (λ e. subst (λ k. Tried off k (expanded off order (next off j c))) e (tried-kept off order j (next off j c) (tried_here off j c))) (tried-all off order i (next off j c)) (has-cases j i order h)

clears : (i : ℕ) → i < 16 → bit_at (all_but i) i ≡ false
unfolding bit_at
clears i h = not-true (bit_at (all_but i) i) (computed 16 (λ k. not (bit_at (all_but k) k)) refl i h)

-- a literal that is there is not gone
pub literal-there : (c : Cube) (i : ℕ) → i < 16 → bit_at c.mask i ≡ true → struck c i ≡ c → ⊥
literal-there c i h b e =
    let z : bit_at (bit_and c.mask (all_but i)) i ≡ false = bit-and c.mask (all_but i) i ∙ ap₂ ◌&&◌ b (clears i h) in
    both_ways (bit_at c.mask i) (ap (λ (d : Cube). bit_at d.mask i) (sym e) ∙ z) b

-- what the start keeps out stays out
pub expanded-off : (off order : List ℕ) (c : Cube) → touches off c ≡ false → touches off (expanded off order c) ≡ false
expanded-off off [] c h = h
expanded-off off (j ∷ order) c h =
    let P : Bool → Type 0 = λ b. touches off (struck c j) ≡ b → touches off (cond b c (struck c j)) ≡ false in
    let p : P (touches off (struck c j)) = elim (touches off (struck c j)) as P [ true ↦ (λ _. h) | false ↦ (λ e. e) ] in
    expanded-off off order (next off j c) (p refl)

part-cube : (f : ℕ) (c : Cube) (k : ℕ) → IsCube f c → IsCube f (part c k)
part-cube f c k g =
    record {
      small = lt_of_le_of_lt (and_le_l c.mask k) g.small;
      inside = swap c.values k (bit_and c.mask k) ∙ ap (λ (n : ℕ). bit_and n k) (sym (and_assoc k c.values c.mask)) ∙ and_assoc k (bit_and c.values c.mask) k ∙ ap₂ bit_and g.inside (and_self k);
    }

pub expanded-cube : (f : ℕ) (off order : List ℕ) (c : Cube) → IsCube f c → IsCube f (expanded off order c)
expanded-cube f off [] c g = g
expanded-cube f off (j ∷ order) c g =
    let P : Bool → Type 0 = λ b. IsCube f (cond b c (struck c j)) in
    let p : P (touches off (struck c j)) = elim (touches off (struck c j)) as P [ true ↦ g | false ↦ part-cube f c (all_but j) g ] in
    expanded-cube f off order (next off j c) p

pub start-cube : (f y : ℕ) → y < 2 ^ f → IsCube f (start f y)
start-cube f y h = record { small = ones_lt f; inside = and_mask y f ∙ mod-eq_of_lt h }

-- the cube of all literals holds its own minterm alone
pub start-alone : (f y z : ℕ) → z < 2 ^ f → in_cube (start f y) z ≡ true → z ≡ y
start-alone f y z h e = sym (and_mask z f ∙ mod-eq_of_lt h) ∙ eqb-true (bit_and z (2 ^ f - 1)) y e
