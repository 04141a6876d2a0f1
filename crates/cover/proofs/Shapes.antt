-- The minterms of a cube, byte by byte.
use Rattle.std.proofs.Common.{◌≡◌, ℕ, ◌+◌, ◌*◌, ◌/◌, ◌%◌, ◌^◌, ◌<◌, Bool, true, false, cond, not, ◌&&◌, eqb, length, get_or, Decides, zero-add, sym, refl, ap, ◌∙◌, ap₂, inl, inr, lt_of_le_of_lt, mod-lt, div-add-mod', arith, lit<}
use lib.Bits.{bit_and, and_block, and_le_l}
use Rattle.std.proofs.lemmas.Nat.{and_le_r}
use Rattle.std.proofs.lemmas.List.{get_or_default}
use Rattle.std.specs.List.{list_any, enumerate_from}
use Rattle.std.proofs.lemmas.List.Folds.{Any-from_list_any, list_any_at}
use Rattle.std.proofs.lemmas.List.FromFn.{length-enumerate_from, get_or-enumerate_from}
use Rattle.std.proofs.lemmas.Bool.{not_from_false, and_parts, and_from, cases_eq, eq-eqb, ne_eqb, both_ways}
use Rattle.network.specs.Limits.{minterms, function_bytes}
use Rattle.network.specs.Rows.{bit_at, bit_of}
use Rattle.network.specs.declared.row.Function.{Function}
use Rattle.network.proofs.Bits.{bit-of-zero}
use Rattle.cover.specs.Cubes.{in_cube}
use Rattle.cover.specs.Bytes.{agrees, low_byte, byte_of}
use Rattle.cover.specs.Tables.{IsSet, Meets}
use Rattle.cover.specs.declared.cube.Cube.{Cube}
use Rattle.network.proofs.Bits.{every, computed, bit-and}
use Rattle.cover.proofs.Bits.{same, same_true, some-bit}

-- what the low byte has to be for a cube's first three fanins
low-right : ℕ → ℕ → ℕ → Bool
low-right m v b = same (bit_at (low_byte m v) b) (eqb (bit_and b m) v)

low_bits : (m v b : ℕ) → m < 8 → v < 8 → b < 8 → bit_at (low_byte m v) b ≡ eqb (bit_and b m) v
unfolding bit_at low_byte low-right
low_bits m v b hm hv hb =
    same_true (bit_at (low_byte m v) b) (eqb (bit_and b m) v)
    (computed 8 (low-right m v) (computed 8 (λ v. every 8 (low-right m v)) (computed 8 (λ m. every 8 (λ v. every 8 (low-right m v))) refl m hm) v hv) b hb)

-- only the first three fanins matter to it
low-mod : (m v : ℕ) → low_byte m v ≡ low_byte (m % 8) (v % 8)
unfolding bit_at low_byte
low-mod m v =
    let zero_bit : (n : ℕ) → n / 2 ^ 0 % 2 ≡ n % 8 / 2 ^ 0 % 2 = λ n. omega arith in
    let one_bit : (n : ℕ) → n / 2 ^ 1 % 2 ≡ n % 8 / 2 ^ 1 % 2 = λ n. omega arith in
    let two-bit : (n : ℕ) → n / 2 ^ 2 % 2 ≡ n % 8 / 2 ^ 2 % 2 = λ n. omega arith in
    let a = zero_bit m in let b = zero_bit v in let c = one_bit m in let d = one_bit v in let e = two-bit m in let f = two-bit v in
    cc

block-eqb : (a r b s : ℕ) → r < 8 → s < 8 → eqb (a * 8 + r) (b * 8 + s) ≡ (eqb a b && eqb r s)
block-eqb a r b s hr hs = elim (cases_eq a b) [
  | inl p ↦ elim (cases_eq r s) [
    | inl q ↦ eq-eqb (a * 8 + r) (b * 8 + s) (omega arith) ∙ sym (and_from (eqb a b) (eqb r s) (eq-eqb a b p) (eq-eqb r s q))
    | inr q ↦ ne_eqb (a * 8 + r) (b * 8 + s) (λ e. q (omega arith)) ∙ sym (ap₂ (λ x y. x && y) (eq-eqb a b p) (ne_eqb r s q))
  ]
  | inr p ↦ ne_eqb (a * 8 + r) (b * 8 + s) (λ e. p (omega arith)) ∙ sym (ap (λ x. x && eqb r s) (ne_eqb a b p))
]

-- a cube is tested on the fanins above the third and on the first three apart
split-cube : (c : Cube) (y : ℕ) → in_cube c y ≡ (eqb (bit_and (y / 8) (c.mask / 8)) (c.values / 8) && eqb (bit_and (y % 8) (c.mask % 8)) (c.values % 8))
split-cube c y =
    let m = c.mask in
    let v = c.values in
    let p : bit_and y m ≡ bit_and (y / 8) (m / 8) * 8 + bit_and (y % 8) (m % 8) =
    ap₂ bit_and (sym (div-add-mod' y 8)) (sym (div-add-mod' m 8)) ∙ and_block 3 (y / 8) (m / 8) (y % 8) (m % 8) (mod-lt y (lit< tt)) (mod-lt m (lit< tt)) in
    ap₂ eqb p (sym (div-add-mod' v 8)) ∙ block-eqb (bit_and (y / 8) (m / 8)) (bit_and (y % 8) (m % 8)) (v / 8) (v % 8) (lt_of_le_of_lt (and_le_l (y % 8) (m % 8)) (mod-lt y (lit< tt))) (mod-lt v (lit< tt))

-- bit b of byte k of a cube
pub byte-bit : (c : Cube) (y : ℕ) → bit_at (byte_of c (y / 8)) (y % 8) ≡ in_cube c y
unfolding byte_of
byte-bit c y =
    let t = eqb (bit_and (y / 8) (c.mask / 8)) (c.values / 8) in
    let low = low_byte c.mask c.values in
    let P : Bool → Type 0 = λ t. bit_at (cond t low 0) (y % 8) ≡ (t && bit_at low (y % 8)) in
    let p : P t = elim t as P [ true ↦ refl | false ↦ bit-of-zero (y % 8) ] in
    let q : bit_at low (y % 8) ≡ eqb (bit_and (y % 8) (c.mask % 8)) (c.values % 8) =
    ap (λ n. bit_at n (y % 8)) (low-mod c.mask c.values) ∙ low_bits (c.mask % 8) (c.values % 8) (y % 8) (mod-lt c.mask (lit< tt)) (mod-lt c.values (lit< tt)) (mod-lt y (lit< tt)) in
    p ∙ ap (λ b. t && b) q ∙ sym (split-cube c y)

-- the bytes of a cube make its table
pub bytes-set : (c : Cube) (r : Function) → ((j : ℕ) → j < function_bytes → get_or r.bytes j 0 ≡ byte_of c j) → IsSet r (in_cube c)
unfolding bit_of
bytes-set c r f y h = ap (λ n. bit_at n (y % 8)) (f (y / 8) (omega arith)) ∙ byte-bit c y

agrees-small : (b d : Bool) → agrees b d 0xaa < 256
agrees-small true true = lit< tt
agrees-small true false = lit< tt
agrees-small false true = lit< tt
agrees-small false false = lit< tt

byte-small : (c : Cube) (k : ℕ) → byte_of c k < 256
unfolding byte_of low_byte
byte-small c k =
    let low : low_byte c.mask c.values < 256 = lt_of_le_of_lt (and_le_l _ _) (lt_of_le_of_lt (and_le_l _ _) (agrees-small (bit_at c.mask 0) (bit_at c.values 0))) in
    let P : Bool → Type 0 = λ b. cond b (low_byte c.mask c.values) 0 < 256 in
    elim (eqb (bit_and k (c.mask / 8)) (c.values / 8)) as P [ true ↦ low | false ↦ lit< tt ]

-- a byte that the set and the cube share a bit of
meets_at : (s : Function) (c : Cube) (j : ℕ) → j < function_bytes → (bit_and (get_or s.bytes j 0) (byte_of c j) ≡ 0 → ⊥) → Meets s c
unfolding bit_of
meets_at s c j hj ne =
    let x = get_or s.bytes j 0 in
    let byte = byte_of c j in
    let w = some-bit (bit_and x byte) (lt_of_le_of_lt (and_le_r x byte) (byte-small c j)) ne in
    let i = w.0 in
    let b : i < 8 = w.1 in
    let y = j * 8 + i in
    let d : y / 8 ≡ j = omega arith in
    let m : y % 8 ≡ i = omega arith in
    let t = and_parts (bit_at x i) (bit_at byte i) (sym (bit-and x byte i) ∙ w.2) in (
      y,
      omega arith,
      ap₂ (λ a b. bit_at (get_or s.bytes a 0) b) d m ∙ t.0,
      sym (byte-bit c y) ∙ ap₂ (λ a b. bit_at (byte_of c a) b) d m ∙ t.1,
    )

-- byte p.0 of a set, which is p.1, and of a cube share a bit
abbrev pub shared : Cube → ℕ × ℕ → Bool
shared c p = not (eqb (bit_and p.1 (byte_of c p.0)) 0)

-- whether a set and a cube share a bit of a byte
pub meets-shared : (s : Function) (c : Cube) (r : Bool) → length s.bytes ≡ function_bytes → r ≡ list_any (shared c) (enumerate_from 0 s.bytes) → Decides r (Meets s c)
unfolding bit_of
meets-shared s c r long e =
    let numbered = enumerate_from 0 s.bytes in
    let size : length numbered ≡ function_bytes = length-enumerate_from 0 s.bytes ∙ long in
    let entry : (j : ℕ) (d : ℕ × ℕ) → j < function_bytes → get_or numbered j d ≡ (j, get_or s.bytes j 0) =
    λ j d h. get_or-enumerate_from 0 s.bytes j d (omega (arith, long)) ∙ ap₂ (λ i b. (i, b)) (zero-add j) (get_or_default s.bytes j d.1 0 (omega (arith, long))) in (
      λ t.
          let w = Any-from_list_any (shared c) numbered (sym e ∙ t) in
          let j = w.0 in
          let h : j < function_bytes = omega (arith, w.2, size) in
          let there : shared c (j, get_or s.bytes j 0) ≡ true = ap (shared c) (sym (entry j w.1 h) ∙ w.3) ∙ w.4 in
          meets_at s c j h (λ z. both_ways (shared c (j, get_or s.bytes j 0)) (ap (λ n. not (eqb n 0)) z) there),
      λ w.
          let y = w.0 in
          let h : y < minterms = w.1 in
          let d : y / 8 < function_bytes = omega arith in
          let set = get_or s.bytes (y / 8) 0 in
          let both : bit_at (bit_and set (byte_of c (y / 8))) (y % 8) ≡ true = bit-and set (byte_of c (y / 8)) (y % 8) ∙ and_from (bit_at set (y % 8)) (bit_at (byte_of c (y / 8)) (y % 8)) w.2 (byte-bit c y ∙ w.3) in
          let some : eqb (bit_and set (byte_of c (y / 8))) 0 ≡ false = ne_eqb _ _ (λ z. both_ways (bit_at (bit_and set (byte_of c (y / 8))) (y % 8)) (ap (λ n. bit_at n (y % 8)) z ∙ bit-of-zero (y % 8)) both) in
          e ∙ list_any_at (shared c) numbered (y / 8) (y / 8, 0) (omega (arith, d, size)) (ap (shared c) (entry (y / 8) (y / 8, 0) d) ∙ not_from_false _ some),
    )
