-- The minterms of a set, as a list.
use Rattle.std.proofs.Common.{◌≡◌, ℕ, zero, suc, ◌+◌, ◌-◌, ◌*◌, ◌/◌, ◌%◌, ◌^◌, ◌<◌, ◌≤◌, Bool, true, false, cond, ◌&&◌, eqb, ltb, [], ◌∷◌, ◌++◌, get_or, Decides, filter, sym, refl, ap, ◌∙◌, subst, ap₂, inl, inr, ⊎_elim, add-zero, zero-add, zero-mul, arith, pow_pos, pow_mono, shr_lt}
use native.Mathlib.Nat.{zero-mod}
use lib.Bits.{bit_and, and_high}
use lib.Pow.{shr_mod}
use Rattle.std.proofs.lemmas.Nat.{le-div, mul-le}
use Rattle.std.specs.List.{range_with_len, ContainsAt as Has}
use Rattle.std.proofs.lemmas.List.Elements.{filter-append}
use Rattle.std.proofs.ByRecursion.{has_get_or}
use Rattle.std.proofs.lemmas.List.{append-nil}
use Rattle.std.proofs.lemmas.Bool.{cases_eq, and_left, lt-ltb, le-ltb, cond-true, cond-false, eq-eqb, ne_eqb, cases_lt}
use Rattle.std.proofs.lemmas.Bool.Decides.{same_from_decides, Decides-by_or, Decides-like}
use Rattle.network.specs.Limits.{minterms, max_fanins}
use Rattle.network.specs.Rows.{bit_of}
use Rattle.network.specs.declared.row.Function.{Function}
use Rattle.roll.proofs.Members.{has-none, has_here, has_there, has-cases}
use Rattle.cover.specs.Cubes.{in_cube}
use Rattle.cover.specs.Tables.{IsSet, Meets, members, members_below}
use Rattle.cover.specs.Covers.{care_with, minterms_on, minterms_off, touches}
use Rattle.cover.specs.declared.care.CareFunction.{CareFunction}
use Rattle.cover.specs.declared.cube.Cube.{Cube}

-- what is kept of the numbers from a on
pub kept-has : (p : ℕ → Bool) (a n y : ℕ) → Has (filter p (range_with_len a n)) y → (a ≤ y) × (y < a + n) × (p y ≡ true)
kept-has p a zero y h = absurd (has-none y h)
kept-has p a (suc n) y h =
    let rest : Has (filter p (range_with_len (a + 1) n)) y → (a ≤ y) × (y < a + suc n) × (p y ≡ true) = λ k. let r = kept-has p (a + 1) n y k in (omega (arith, r.0), omega (arith, r.1), r.2) in
    let P : Bool → Type 0 = λ b. p a ≡ b → Has (cond b (a ∷ filter p (range_with_len (a + 1) n)) (filter p (range_with_len (a + 1) n))) y → (a ≤ y) × (y < a + suc n) × (p y ≡ true) in
    let q : P (p a) = elim (p a) as P [
      | true ↦ (λ e k. ⊎_elim (λ s. (omega arith, omega arith, ap p (sym s) ∙ e)) rest (has-cases a y (filter p (range_with_len (a + 1) n)) k))
      | false ↦ (λ _ k. rest k)
    ] in
    q refl h

pub has_kept : (p : ℕ → Bool) (a n y : ℕ) → a ≤ y → y < a + n → p y ≡ true → Has (filter p (range_with_len a n)) y
has_kept p a zero y l h e = absurd (omega arith)
has_kept p a (suc n) y l h e = elim (cases_eq a y) [
  | inl s ↦ subst (λ xs. Has xs y) (sym (cond-true (p a) (a ∷ filter p (range_with_len (a + 1) n)) (filter p (range_with_len (a + 1) n)) (ap p s ∙ e))) (has_here a y (filter p (range_with_len (a + 1) n)) s)
  | inr s ↦ let r = has_kept p (a + 1) n y (omega arith) (omega arith) e in
      let P : Bool → Type 0 = λ b. Has (cond b (a ∷ filter p (range_with_len (a + 1) n)) (filter p (range_with_len (a + 1) n))) y in
      elim (p a) as P [ true ↦ has_there a y (filter p (range_with_len (a + 1) n)) r | false ↦ r ]
]

-- tests that agree keep the same
pub kept_same : (p q : ℕ → Bool) (a n : ℕ) → ((y : ℕ) → a ≤ y → y < a + n → p y ≡ q y) → filter p (range_with_len a n) ≡ filter q (range_with_len a n)
kept_same p q a zero f = refl
kept_same p q a (suc n) f =
    ap₂ (λ b xs. cond b (a ∷ xs) xs) (f a (omega arith) (omega arith)) (kept_same p q (a + 1) n (λ y l h. f y (omega arith) (omega arith)))

pub kept-none : (p : ℕ → Bool) (a n : ℕ) → ((y : ℕ) → a ≤ y → y < a + n → p y ≡ false) → filter p (range_with_len a n) ≡ []
kept-none p a zero f = refl
kept-none p a (suc n) f =
    cond-false (p a) (a ∷ filter p (range_with_len (a + 1) n)) (filter p (range_with_len (a + 1) n)) (f a (omega arith) (omega arith)) ∙ kept-none p (a + 1) n (λ y l h. f y (omega arith) (omega arith))

counting-split : (a n m : ℕ) → range_with_len a (n + m) ≡ range_with_len a n ++ range_with_len (a + n) m
counting-split a zero m = ap₂ range_with_len (sym (add-zero a)) (zero-add m)
counting-split a (suc n) m =
    let e : suc n + m ≡ suc (n + m) = omega arith in
    let s : a + 1 + n ≡ a + suc n = omega arith in
    ap (range_with_len a) e ∙ ap (λ xs. a ∷ xs) (counting-split (a + 1) n m ∙ ap (λ k. range_with_len (a + 1) n ++ range_with_len k m) s)

-- nothing is kept from n on
pub kept-clip : (p : ℕ → Bool) (n m : ℕ) → n ≤ m → ((y : ℕ) → n ≤ y → y < m → p y ≡ false) → filter p (range_with_len 0 m) ≡ filter p (range_with_len 0 n)
kept-clip p n m l f =
    let e : m ≡ n + (m - n) = omega arith in
    ap (λ k. filter p (range_with_len 0 k)) e ∙ ap (filter p) (counting-split 0 n (m - n)) ∙ filter-append p (range_with_len 0 n) (range_with_len (0 + n) (m - n))
    ∙ ap (λ xs. filter p (range_with_len 0 n) ++ xs) (kept-none p (0 + n) (m - n) (λ y a b. f y (omega arith) (omega arith))) ∙ append-nil (filter p (range_with_len 0 n))

below-has : (n : ℕ) (s : Function) (y : ℕ) → Has (members_below n s) y → (y < n) × (bit_of s y ≡ true)
unfolding members_below
below-has n s y h = let k = kept-has (bit_of s) 0 n y h in (omega (arith, k.1), k.2)

has-below : (n : ℕ) (s : Function) (y : ℕ) → y < n → bit_of s y ≡ true → Has (members_below n s) y
unfolding members_below
has-below n s y h e = has_kept (bit_of s) 0 n y (omega arith) (omega arith) e

pub members-has : (s : Function) (y : ℕ) → Has (members s) y → (y < minterms) × (bit_of s y ≡ true)
unfolding members
members-has s = below-has minterms s

pub has-member : (s : Function) (y : ℕ) → y < minterms → bit_of s y ≡ true → Has (members s) y
unfolding members
has-member s = has-below minterms s

below-is : (n m : ℕ) (s : Function) (p : ℕ → Bool) → n ≤ m → ((y : ℕ) → y < m → bit_of s y ≡ (ltb y n && p y)) → members_below m s ≡ filter p (range_with_len 0 n)
unfolding members_below
below-is n m s p l f =
    kept-clip (bit_of s) n m l (λ y a b. f y b ∙ and_left (ltb y n) (p y) (le-ltb y n a))
    ∙ kept_same (bit_of s) p 0 n (λ y a b. f y (omega arith) ∙ ap (λ t. t && p y) (lt-ltb y n (omega arith)))

-- the minterms of a table that is a set of minterms of f fanins
members-is : (f : ℕ) (s : Function) (p : ℕ → Bool) → f ≤ max_fanins → IsSet s (λ y. ltb y (2 ^ f) && p y) → members s ≡ filter p (range_with_len 0 (2 ^ f))
unfolding members
members-is f s p l e = below-is (2 ^ f) minterms s p (pow_mono l) e

-- the table s is that of the care minterms at which the function is b
abbrev pub IsSide : CareFunction → Bool → Function → Type 0
IsSide target b s = IsSet s (λ y. ltb y (2 ^ target.fanins.count) && care_with b target y)

pub members-on : (target : CareFunction) (s : Function) → IsSide target true s → members s ≡ minterms_on target
unfolding minterms_on
members-on target s e = members-is target.fanins.count s (care_with true target) target.fanins.few e

pub below_on : (target : CareFunction) (s : Function) → IsSide target true s → members_below (2 ^ target.fanins.count) s ≡ minterms_on target
unfolding minterms_on
below_on target s e =
    let m : 2 ^ target.fanins.count ≤ minterms = pow_mono target.fanins.few in
    below-is (2 ^ target.fanins.count) (2 ^ target.fanins.count) s (care_with true target) (omega arith) (λ y h. e y (omega arith))

pub members-off : (target : CareFunction) (s : Function) → IsSide target false s → members s ≡ minterms_off target
unfolding minterms_off
members-off target s e = members-is target.fanins.count s (care_with false target) target.fanins.few e

-- a number below 2 ^ (j + f) is below 2 ^ f exactly if its bits from f on are 0
high_bits : (f j y : ℕ) → y < 2 ^ (j + f) → eqb (bit_and y (2 ^ (j + f) - 2 ^ f)) 0 ≡ ltb y (2 ^ f)
high_bits f j y h =
    let e = and_high y j f in
    elim (cases_lt y (2 ^ f)) [
      | inl l ↦ let q : y / 2 ^ f < 2 ^ 0 = shr_lt 0 f (subst (λ n. y < 2 ^ n) (sym (zero-add f)) l) in
          let z : y / 2 ^ f ≡ 0 = omega arith in
          let w : y / 2 ^ f % 2 ^ j * 2 ^ f ≡ 0 = ap (λ n. n % 2 ^ j * 2 ^ f) z ∙ ap (λ n. n * 2 ^ f) (zero-mod (2 ^ j)) ∙ zero-mul (2 ^ f) in
          eq-eqb (bit_and y (2 ^ (j + f) - 2 ^ f)) 0 (e ∙ w) ∙ sym (lt-ltb y (2 ^ f) l)
      | inr l ↦ let q : 1 ≤ y / 2 ^ f = le-div 1 y (2 ^ f) (pow_pos f) (omega arith) in
          let r : y / 2 ^ f % 2 ^ j ≡ y / 2 ^ f = shr_mod j f h in
          let m : 1 * 1 ≤ y / 2 ^ f * 2 ^ f = mul-le 1 1 (y / 2 ^ f) (2 ^ f) q (pow_pos f) in
          let n : bit_and y (2 ^ (j + f) - 2 ^ f) ≡ y / 2 ^ f * 2 ^ f = e ∙ ap (λ k. k * 2 ^ f) r in
          ne_eqb (bit_and y (2 ^ (j + f) - 2 ^ f)) 0 (λ z. omega arith) ∙ sym (le-ltb y (2 ^ f) l)
    ]

-- the minterms of a node, as a cube
pub domain-set : (f : ℕ) (s : Function) → f ≤ max_fanins → IsSet s (in_cube (record { mask = minterms - 2 ^ f; values = 0 })) → IsSet s (λ y. ltb y (2 ^ f))
domain-set f s l e y h =
    let k : max_fanins - f + f ≡ max_fanins = omega arith in
    e y h ∙ subst (λ n. y < 2 ^ n → eqb (bit_and y (2 ^ n - 2 ^ f)) 0 ≡ ltb y (2 ^ f)) k (high_bits f (max_fanins - f) y) h

-- whether one of the minterms of a set is in a cube, by its table and by its list
pub meets-touches : (s : Function) (c : Cube) (r : Bool) → Decides r (Meets s c) → r ≡ touches (members s) c
meets-touches s c r d =
    same_from_decides r (touches (members s) c)
    (Decides-like r
    (λ w. let m = has-member s w.0 w.1 w.2 in (m.0, m.1, λ d. ap (in_cube c) (m.2 d) ∙ w.3))
    (λ w. let m = members-has s (get_or (members s) w.0 0) (has_get_or (members s) w.0 0 w.1) in (get_or (members s) w.0 0, m.0, m.1, w.2 0)) d)
    (Decides-by_or (in_cube c) (λ y. in_cube c y ≡ true) (λ ys. touches ys c) (λ y. (λ e. e, λ e. e)) refl (λ _ _. refl) (members s))
