-- Lists of minterms, byte by byte.
use Rattle.std.proofs.Common.{Bool, List, [], ap, ap₂, arith, cond, eqb, false, get_or, length, lit<, mod-lt, not, refl, replicate, set, suc, sym, true, zero, ℕ, ⊎_elim, ◌%◌, ◌*◌, ◌+◌, ◌/◌, ◌<◌, ◌^◌, ◌||◌, ◌∙◌, ◌∷◌, ◌≡◌}
use lib.Bits.{bit_or}
use Rattle.std.proofs.lemmas.List.{get_or-set_same, get_or-set_other}
use Rattle.std.proofs.lemmas.Bool.{cases_Bool, cases_eq, eq-eqb, eqb-true, ne_eqb}
use Rattle.std.proofs.lemmas.List.Sums.{sum_by_from}
use Rattle.std.specs.Prelude.{count_ones}
use Rattle.std.specs.List.{sum_by, list_any}
use Rattle.network.specs.Limits.{function_bytes}
use Rattle.network.specs.Rows.{bit_at, bit_of}
use Rattle.context.specs.Care.{any_below, count_below}
use Rattle.context.proofs.Any.{any_same}
use Rattle.context.proofs.Counts.{count_yes, count_no, count_same}
use Rattle.search.proofs.Anys.{or-none, any_add}
use Rattle.network.proofs.Bits.{bit-of-zero, every, computed, bit-or}

zeros : (n k : ℕ) → ◌≡◌ {A = ℕ} (get_or (replicate n 0) k 0) 0
zeros zero k = refl
zeros (suc n) zero = refl
zeros (suc n) (suc k) = zeros n k

-- a table of zero bytes
pub none-listed : (y : ℕ) → bit_of (record { bytes = replicate function_bytes 0 }) y ≡ false
unfolding bit_of
none-listed y = ap (λ n. bit_at n (y % 8)) (zeros function_bytes (y / 8)) ∙ bit-of-zero (y % 8)

abbrev alike : Bool → Bool → Bool
alike a b = cond a b (not b)

alike-true : (a b : Bool) → alike a b ≡ true → a ≡ b
alike-true true true h = refl
alike-true true false h = sym h
alike-true false true h = h
alike-true false false h = refl

-- the bits of one bit of a byte
one_bit : (i j : ℕ) → i < 8 → j < 8 → bit_at ((1 * 2 ^ i) % 256) j ≡ eqb i j
unfolding bit_at
one_bit i j hi hj =
    alike-true (bit_at ((1 * 2 ^ i) % 256) j) (eqb i j) (computed 8 (λ j. alike (bit_at ((1 * 2 ^ i) % 256) j) (eqb i j)) (computed 8 (λ i. every 8 (λ j. alike (bit_at ((1 * 2 ^ i) % 256) j) (eqb i j))) refl i hi) j hj)

same_rest : (y z : ℕ) → y / 8 ≡ z / 8 → eqb (y % 8) (z % 8) ≡ eqb y z
same_rest y z e =
    ⊎_elim
    (λ (s : y ≡ z). ap (λ n. eqb (n % 8) (z % 8)) s ∙ eq-eqb (z % 8) (z % 8) refl ∙ sym (eq-eqb y z s))
    (λ n. ne_eqb (y % 8) (z % 8) (λ r. n (omega arith)) ∙ sym (ne_eqb y z n))
    (cases_eq y z)

-- one bit more
pub one_more : (bytes : List ℕ) (y : ℕ) → y / 8 < length bytes → (z : ℕ)
    → bit_of (record { bytes = set bytes (y / 8) (bit_or (get_or bytes (y / 8) 0) ((1 * 2 ^ (y % 8)) % 256)) }) z ≡ (bit_of (record { bytes = bytes }) z || eqb y z)
unfolding bit_of
one_more bytes y h z =
    let b = get_or bytes (y / 8) 0 in
    let v = bit_or b ((1 * 2 ^ (y % 8)) % 256) in
    ⊎_elim
    (λ (e : z / 8 ≡ y / 8).
    ap (λ k. bit_at (get_or (set bytes (y / 8) v) k 0) (z % 8)) e ∙ ap (λ n. bit_at n (z % 8)) (get_or-set_same bytes (y / 8) v 0 h)
    ∙ bit-or b ((1 * 2 ^ (y % 8)) % 256) (z % 8)
    ∙ ap₂ ◌||◌ (ap (λ k. bit_at (get_or bytes k 0) (z % 8)) (sym e)) (one_bit (y % 8) (z % 8) (mod-lt y (lit< tt)) (mod-lt z (lit< tt)) ∙ same_rest y z (sym e)))
    (λ n.
    ap (λ k. bit_at k (z % 8)) (get_or-set_other bytes (y / 8) (z / 8) v 0 n)
    ∙ sym (or-none (bit_at (get_or bytes (z / 8) 0) (z % 8))) ∙ sym (ap (λ t. bit_at (get_or bytes (z / 8) 0) (z % 8) || t) (ne_eqb y z (λ e. n (ap (λ k. k / 8) (sym e))))))
    (cases_eq (z / 8) (y / 8))

-- a byte's bits
byte-ones : (b : ℕ) → b < 256 → count_ones b ≡ count_below 8 (bit_at b)
unfolding bit_at count_below lib.Count.ones
byte-ones b h = eqb-true (count_ones b) (count_below 8 (bit_at b)) (computed 256 (λ b. eqb (count_ones b) (count_below 8 (bit_at b))) refl b h)

byte-any : (b : ℕ) → b < 256 → not (eqb b 0) ≡ any_below 8 (bit_at b)
unfolding bit_at any_below
byte-any b h = alike-true (not (eqb b 0)) (any_below 8 (bit_at b)) (computed 256 (λ b. alike (not (eqb b 0)) (any_below 8 (bit_at b))) refl b h)

-- the numbers below n and those from n on
count_add : (n m : ℕ) (p : ℕ → Bool) → count_below (n + m) p ≡ count_below n p + count_below m (λ j. p (n + j))
unfolding count_below
count_add n zero p = let z : n + 0 ≡ n = omega arith in let s : count_below n p ≡ count_below n p + 0 = omega arith in ap (λ k. count_below k p) z ∙ s
count_add n (suc m) p =
    let q : ℕ → Bool = λ j. p (n + j) in
    let next : n + suc m ≡ suc (n + m) = omega arith in
    let low = count_add n m p in
    ap (λ k. count_below k p) next
    ∙ ⊎_elim
    (λ (e : p (n + m) ≡ true). omega (arith, low, count_yes (n + m) p e, count_yes m q e))
    (λ (e : p (n + m) ≡ false). omega (arith, low, count_no (n + m) p e, count_no m q e))
    (cases_Bool (p (n + m)))

first-byte : (b : ℕ) (bs : List ℕ) (i : ℕ) → i < 8 → bit_of (record { bytes = b ∷ bs }) i ≡ bit_at b i
unfolding bit_of
first-byte b bs i h =
    let q : i / 8 ≡ 0 = omega arith in
    let r : i % 8 ≡ i = omega arith in
    ap₂ (λ k j. bit_at (get_or (b ∷ bs) k 0) j) q r

later-bytes : (b : ℕ) (bs : List ℕ) (j : ℕ) → bit_of (record { bytes = b ∷ bs }) (8 + j) ≡ bit_of (record { bytes = bs }) j
unfolding bit_of
later-bytes b bs j =
    let q : (8 + j) / 8 ≡ suc (j / 8) = omega arith in
    let r : (8 + j) % 8 ≡ j % 8 = omega arith in
    ap₂ (λ k i. bit_at (get_or (b ∷ bs) k 0) i) q r

zero-add : (n : ℕ) → 0 + n ≡ n
zero-add n = omega arith

more : (n : ℕ) → 8 * suc n ≡ 8 + 8 * n
more n = omega arith

-- the ones of the bytes are the minterms that have 1
pub ones-count : (bs : List ℕ) → ((k : ℕ) → get_or bs k 0 < 256) → sum_by count_ones bs ≡ count_below (8 * length bs) (bit_of (record { bytes = bs }))
unfolding count_below
ones-count [] small = refl
ones-count (b ∷ bs) small =
    let p : ℕ → Bool = bit_of (record { bytes = b ∷ bs }) in
    let first = byte-ones b (small 0) ∙ count_same 8 (bit_at b) p (λ i h. sym (first-byte b bs i h)) in
    let rest = ones-count bs (λ k. small (suc k)) ∙ count_same (8 * length bs) (bit_of (record { bytes = bs })) (λ j. p (8 + j)) (λ j h. sym (later-bytes b bs j)) in
    let total : sum_by count_ones (b ∷ bs) ≡ count_ones b + sum_by count_ones bs = sum_by_from count_ones (0 + count_ones b) bs ∙ ap (λ n. n + sum_by count_ones bs) (zero-add (count_ones b)) in
    total ∙ ap₂ ◌+◌ first rest ∙ sym (ap (λ n. count_below n p) (more (length bs)) ∙ count_add 8 (8 * length bs) p)

-- some byte is not 0 exactly if some minterm has 1
pub ones-any : (bs : List ℕ) → ((k : ℕ) → get_or bs k 0 < 256) → list_any (λ b. not (eqb b 0)) bs ≡ any_below (8 * length bs) (bit_of (record { bytes = bs }))
unfolding any_below
ones-any [] small = refl
ones-any (b ∷ bs) small =
    let p : ℕ → Bool = bit_of (record { bytes = b ∷ bs }) in
    let first = byte-any b (small 0) ∙ any_same 8 (bit_at b) p (λ i h. sym (first-byte b bs i h)) in
    let rest = ones-any bs (λ k. small (suc k)) ∙ any_same (8 * length bs) (bit_of (record { bytes = bs })) (λ j. p (8 + j)) (λ j h. sym (later-bytes b bs j)) in
    ap₂ ◌||◌ first rest ∙ sym (ap (λ n. any_below n p) (more (length bs)) ∙ any_add 8 (8 * length bs) p)
