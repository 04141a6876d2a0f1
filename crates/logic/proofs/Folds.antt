-- The fold of a function: once j fanins are folded in, place i holds the function's bit at the minterm whose low j bits are
-- what these fanins read, and whose high bits are i.
use Rattle.std.proofs.Common.{◌≡◌, ℕ, zero, suc, ◌+◌, ◌*◌, ◌^◌, ◌<◌, Bool, true, false, cond, not, ◌⊎◌, refl, ap, subst, inl, inr, ⊎_elim, mul_assoc, add-mul, zero-mul, mul-add, arith}
use mathlib.Core.Path.{fun_ext}
use Rattle.network.specs.Rows.{bit_of, fanin}
use Rattle.network.specs.declared.row.Function.{Function}
use Rattle.network.specs.declared.row.Row.{Row}
use Rattle.theory.specs.Values.{number, reads, value_of, flipped}
use Rattle.theory.proofs.Numbers.{pow-twice}
use Rattle.logic.specs.Lanes.{LaneRow, always, picked}
use Rattle.logic.specs.Folds.{folded, node_of, inverse_of, turned_of}

-- the fold reads only its fanins
pub folded-same : {V : Type 0} (pick : V → V → V → V) (of : Bool → V) (f : Function) (x y : ℕ → V) (j : ℕ) → ((m : ℕ) → m < j → x m ≡ y m) → (i : ℕ) → folded pick of f x j i ≡ folded pick of f y j i
folded-same pick of f x y zero same i = refl
folded-same pick of f x y (suc j) same i =
    let before = folded-same pick of f x y j (λ m h. same m (omega arith)) in
    let here : x j ≡ y j = same j (omega arith) in
    let high = before (2 * i + 1) in
    let low = before (2 * i) in
    cc

pub node-same : {V : Type 0} (pick : V → V → V → V) (of : Bool → V) (r : Row) (v w : ℕ → V) → ((i : ℕ) → i < r.count → v (fanin r i) ≡ w (fanin r i)) → node_of pick of r v ≡ node_of pick of r w
node-same pick of r v w h = folded-same pick of r.function (λ i. v (fanin r i)) (λ i. w (fanin r i)) r.count h 0

-- the row that place i has, where fanin m has the row x m
abbrev part : Function → (ℕ → LaneRow) → ℕ → ℕ → LaneRow
part f x j i l = bit_of f (i * 2 ^ j + number (λ m. x m l) j)

-- no fanin is read yet
part_none : (f : Function) (x : ℕ → LaneRow) (i : ℕ) → always (bit_of f i) ≡ part f x 0 i
unfolding number
part_none f x i = let e : i ≡ i * 2 ^ 0 + 0 = omega arith in fun_ext (λ l. ap (bit_of f) e)

-- the minterm of place 2 * i, with the bit of fanin j at 0 or 1
step : (i j n b k : ℕ) → ((b ≡ 0) × (k ≡ 2 * i)) ⊎ ((b ≡ 2 ^ j) × (k ≡ 2 * i + 1)) → k * 2 ^ j + n ≡ i * 2 ^ suc j + (n + b)
step i j n b k way =
    let p : ℕ = 2 ^ j in
    let t : i * 2 ^ suc j ≡ i * (p + p) = ap (λ m. i * m) (pow-twice j) in
    let d : i * (p + p) ≡ i * p + i * p = mul-add i p p in
    let m = mul_assoc 2 i p in
    ⊎_elim
    (λ w. let e : k * p ≡ 2 * i * p = ap (λ z. z * p) w.1 in omega (arith, t, d, m, e, w.0))
    (λ w. let e : k * p ≡ (2 * i + 1) * p = ap (λ z. z * p) w.1 in omega (arith, t, d, m, e, w.0, add-mul (2 * i) 1 p))
    way

chosen : (f : Function) (i j n : ℕ) (b : Bool) → cond b (bit_of f ((2 * i + 1) * 2 ^ j + n)) (bit_of f (2 * i * 2 ^ j + n)) ≡ bit_of f (i * 2 ^ suc j + (n + cond b (2 ^ j) 0))
chosen f i j n true = ap (bit_of f) (step i j n (2 ^ j) (2 * i + 1) (inr (refl, refl)))
chosen f i j n false = ap (bit_of f) (step i j n 0 (2 * i) (inl (refl, refl)))

part-more : (f : Function) (x : ℕ → LaneRow) (j i : ℕ) → picked (x j) (part f x j (2 * i + 1)) (part f x j (2 * i)) ≡ part f x (suc j) i
unfolding number
part-more f x j i = fun_ext (λ l. chosen f i j (number (λ m. x m l) j) (x j l))

-- all fanins are read
part-all : (f : Function) (x : ℕ → LaneRow) (j : ℕ) → part f x j 0 ≡ (λ l. bit_of f (number (λ m. x m l) j))
part-all f x j = fun_ext (λ l. let z : 0 * 2 ^ j + number (λ m. x m l) j ≡ number (λ m. x m l) j = omega (arith, zero-mul (2 ^ j)) in ap (bit_of f) z)

-- from the laws of a logic
module _ {V : Type 0} (admits : V → LaneRow → Type 0) (pick : V → V → V → V) (of : Bool → V)
    (steady : (b : Bool) → admits (of b) (always b))
    (sound : (s h l : V) (a b c : LaneRow) → admits s a → admits h b → admits l c → admits (pick s h l) (picked a b c)) where
  folded-sound : (f : Function) (x : ℕ → V) (rows : ℕ → LaneRow) (j : ℕ) → ((m : ℕ) → m < j → admits (x m) (rows m)) → (i : ℕ) → admits (folded pick of f x j i) (part f rows j i)
  folded-sound f x rows zero all i = subst (λ (r : LaneRow). admits (of (bit_of f i)) r) (part_none f rows i) (steady (bit_of f i))
  folded-sound f x rows (suc j) all i =
      let before : (k : ℕ) → admits (folded pick of f x j k) (part f rows j k) = folded-sound f x rows j (λ m h. all m (omega arith)) in
      let p = sound (x j) (folded pick of f x j (2 * i + 1)) (folded pick of f x j (2 * i)) (rows j) (part f rows j (2 * i + 1)) (part f rows j (2 * i)) (all j (omega arith)) (before (2 * i + 1)) (before (2 * i)) in
      subst (λ (r : LaneRow). admits (folded pick of f x (suc j) i) r) (part-more f rows j i) p

  -- a node's value admits the row of its values
  pub node-sound : (r : Row) (v : ℕ → V) (rows : ℕ → LaneRow) → ((i : ℕ) → i < r.count → admits (v (fanin r i)) (rows (fanin r i))) → admits (node_of pick of r v) (λ l. value_of r (λ s. rows s l))
  unfolding reads
  node-sound r v rows all =
      subst (λ (w : LaneRow). admits (node_of pick of r v) w) (part-all r.function (λ i. rows (fanin r i)) r.count)
      (folded-sound r.function (λ i. v (fanin r i)) (λ i. rows (fanin r i)) r.count all 0)

  not_is : (b : Bool) → cond b false true ≡ not b
  not_is true = refl
  not_is false = refl

  -- and its inverse the other row
  pub turned-sound : (b : Bool) (v : V) (a : LaneRow) → admits v a → admits (turned_of pick of b v) (λ l. flipped b (a l))
  turned-sound true v a h =
      subst (λ (r : LaneRow). admits (inverse_of pick of v) r) (fun_ext (λ l. not_is (a l))) (sound v (of false) (of true) a (always false) (always true) h (steady false) (steady true))
  turned-sound false v a h = h
