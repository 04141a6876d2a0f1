-- Records and pairs, one more at the end.
use Rattle.std.proofs.Common.{◌≡◌, ℕ, ◌+◌, ◌*◌, ◌<◌, ◌≤◌, List, [], ◌∷◌, ◌++◌, length, get_or, take, drop, sym, refl, ap, ◌∙◌, add-zero, add_assoc, arith}
use Rattle.std.specs.List.{flat_map}
use Rattle.std.proofs.lemmas.List.{append_assoc, flat_map_more, length-append, length-take-le, take_more, take-append-drop}
use Rattle.network.specs.Limits.{max_fanins, function_bytes}
use Rattle.network.specs.Rows.{blank}
use Rattle.network.specs.declared.row.Row.{Row}
use Rattle.network.specs.declared.row.Signal.{Signal}
use Rattle.job.specs.Checks.{record_size, width_of}
use Rattle.job.specs.Bytes.{le16, signal_bytes, record_bytes, sizes, pairs_from}
use Rattle.job.proofs.Functions.{wide}

pub joined-push : {X : Type 0} (f : X → List ℕ) (xs : List X) (x : X) → flat_map f (xs ++ x ∷ []) ≡ flat_map f xs ++ f x
joined-push f xs x = sym (flat_map_more f [] xs x)

pub joined-append : {X : Type 0} (f : X → List ℕ) (xs ys : List X) → flat_map f (xs ++ ys) ≡ flat_map f xs ++ flat_map f ys
joined-append f [] ys = refl
joined-append f (x ∷ xs) ys = ap (λ v. f x ++ v) (joined-append f xs ys) ∙ sym (append_assoc (f x) (flat_map f xs) (flat_map f ys))

pub sizes-append : (xs ys : List Row) → sizes (xs ++ ys) ≡ sizes xs + sizes ys
sizes-append [] ys = omega arith
sizes-append (x ∷ xs) ys = let h = sizes-append xs ys in omega arith

pub sizes-more : (rs : List Row) (n : ℕ) → n < length rs → sizes (take (n + 1) rs) ≡ sizes (take n rs) + record_size (get_or rs n blank).count
sizes-more rs n l = ap sizes (take_more rs n blank l) ∙ sizes-append (take n rs) (get_or rs n blank ∷ []) ∙ ap (λ v. sizes (take n rs) + v) (add-zero (record_size (get_or rs n blank).count))

-- some rows have no more bytes than all
pub sizes-within : (rs : List Row) (n : ℕ) → sizes (take n rs) ≤ sizes rs
sizes-within rs n = let e : sizes rs ≡ sizes (take n rs) + sizes (drop n rs) = ap sizes (sym (take-append-drop n rs)) ∙ sizes-append (take n rs) (drop n rs) in omega arith

pub pairs-append : (at : ℕ) (xs ys : List Row) → pairs_from at (xs ++ ys) ≡ pairs_from at xs ++ pairs_from (at + sizes xs) ys
pairs-append at [] ys = ap (λ n. pairs_from n ys) (sym (add-zero at))
pairs-append at (x ∷ xs) ys =
    let p = le16 at ++ le16 (record_size x.count) in
    let next = at + record_size x.count in
    let e : next + sizes xs ≡ at + (record_size x.count + sizes xs) = add_assoc at (record_size x.count) (sizes xs) in
    ap (λ v. p ++ v) (pairs-append next xs ys ∙ ap (λ n. pairs_from next xs ++ pairs_from n ys) e)
    ∙ sym (append_assoc p (pairs_from next xs) (pairs_from (at + (record_size x.count + sizes xs)) ys))

pub pairs-push : (at : ℕ) (xs : List Row) (x : Row) → pairs_from at (xs ++ x ∷ []) ≡ pairs_from at xs ++ (le16 (at + sizes xs) ++ le16 (record_size x.count))
pairs-push at xs x = pairs-append at xs (x ∷ [])

pub length-signals : (xs : List Signal) → length (signal_bytes xs) ≡ 2 * length xs
length-signals [] = refl
length-signals (x ∷ xs) = let h = length-signals xs in omega (arith, h)

pub length_pairs : (at : ℕ) (xs : List Row) → length (pairs_from at xs) ≡ 4 * length xs
length_pairs at [] = refl
length_pairs at (x ∷ xs) = let h = length_pairs (at + record_size x.count) xs in omega (arith, h)

-- a row whose record has the length that it should have
pub record Sound (r : Row) : Type 0 where
  pub few : r.count ≤ max_fanins
  pub places : length r.fanins ≡ max_fanins
  pub bytes : length r.function.bytes ≡ function_bytes

pub length-record : (r : Row) → Sound r → length (record_bytes r) ≡ record_size r.count
length-record r s =
    let w = wide r.count s.few in
    let few = s.few in
    let places = s.places in
    let a : length (take r.count r.fanins) ≡ r.count = length-take-le r.count r.fanins (omega arith) in
    let b : length (signal_bytes (take r.count r.fanins)) ≡ 2 * r.count = length-signals (take r.count r.fanins) ∙ ap (λ n. 2 * n) a in
    let m : width_of r.count ≤ length r.function.bytes = (let z = w.most in let y = s.bytes in omega arith) in
    let d : length (take (width_of r.count) r.function.bytes) ≡ width_of r.count = length-take-le (width_of r.count) r.function.bytes m in
    let t = length-append (signal_bytes (take r.count r.fanins)) (take (width_of r.count) r.function.bytes) in
    omega arith

-- a record's length, at the most
pub record-most : (c : ℕ) → c ≤ max_fanins → record_size c ≤ 49
record-most c h = let m = (wide c h).most in omega arith

-- a record that is one of some ends with them
pub record-ends : (rs qs : List Row) (n first at room : ℕ) → rs ≡ qs → n < length rs → at ≡ first + sizes (take n rs) → first + sizes qs ≤ room → at + record_size (get_or rs n blank).count ≤ room
record-ends rs qs n first at room e l h most = let s = sizes-within rs (n + 1) in let m = sizes-more rs n l in let q = ap sizes e in omega arith
