-- Writes one after another.
use Rattle.std.proofs.Common.{◌≡◌, ℕ, ◌+◌, ◌<◌, ◌≤◌, List, [], ◌∷◌, ◌++◌, length, get_or, take, drop, set, sym, ap, ◌∙◌, add-zero, add_assoc, zero-add, add-one, arith}
use borrow.Rule.Slice.PartMut.{put_mid}
use Rattle.std.proofs.lemmas.List.{append_assoc, take_at, drop_at, drop-drop, length-append, length-take-le, length-drop, set_split, take-append-drop, take_more}
use Rattle.std.specs.List.{flat_map}
use Rattle.job.proofs.Sizes.{joined-push}
use Rattle.job.specs.Bytes.{splice}

pub splice-none : (o : List ℕ) (a : ℕ) → splice o a [] ≡ o
unfolding splice
splice-none o a = ap (λ n. take a o ++ drop n o) (add-zero a) ∙ take-append-drop a o

pub splice-set : (o : List ℕ) (a b : ℕ) → a < length o → set o a b ≡ splice o a (b ∷ [])
unfolding splice
splice-set o a b l = set_split o a b l ∙ ap (λ n. take a o ++ b ∷ drop n o) (sym (add-one a))

-- one write, and the next right after it
pub splice-splice : (o : List ℕ) (a n : ℕ) (x y : List ℕ) → n ≡ a + length x → n ≤ length o → splice (splice o a x) n y ≡ splice o a (x ++ y)
unfolding splice
splice-splice o a n x y e l =
    let p : List ℕ = take a o ++ x in
    let q : List ℕ = drop (a + length x) o in
    let a≤ : a ≤ length o = omega arith in
    let lp : length p ≡ n = length-append (take a o) x ∙ ap (λ k. k + length x) (length-take-le a o a≤) ∙ sym e in
    let whole : take a o ++ (x ++ q) ≡ p ++ q = sym (append_assoc (take a o) x q) in
    let front : take n (take a o ++ (x ++ q)) ≡ p = ap (take n) whole ∙ take_at p q n lp in
    let back : drop (n + length y) (take a o ++ (x ++ q)) ≡ drop (a + length (x ++ y)) o =
    ap (drop (n + length y)) whole ∙ sym (drop-drop (length y) n (p ++ q)) ∙ ap (drop (length y)) (drop_at p q n lp) ∙ drop-drop (length y) (a + length x) o
    ∙ ap (λ k. drop k o) (add_assoc a (length x) (length y) ∙ ap (λ k. a + k) (sym (length-append x y))) in
    ap (λ z. z ++ (y ++ drop (n + length y) (take a o ++ (x ++ q)))) front
    ∙ ap (λ z. p ++ (y ++ z)) back
    ∙ append_assoc (take a o) x (y ++ drop (a + length (x ++ y)) o)
    ∙ ap (λ z. take a o ++ z) (sym (append_assoc x y (drop (a + length (x ++ y)) o)))

pub length-splice : (o : List ℕ) (a : ℕ) (x : List ℕ) → a + length x ≤ length o → length (splice o a x) ≡ length o
unfolding splice
length-splice o a x l = let a≤ : a ≤ length o = omega arith in simp (length-append, length-take-le a o a≤, length-drop) (omega arith)

pub joined-take-more : {X : Type 0} (f : X → List ℕ) (xs : List X) (i : ℕ) (d : X) → i < length xs → flat_map f (take (i + 1) xs) ≡ flat_map f (take i xs) ++ f (get_or xs i d)
joined-take-more f xs i d l = ap (flat_map f) (take_more xs i d l) ∙ joined-push f (take i xs) (get_or xs i d)

-- a loop that writes one part after another
pub splice-more : {X : Type 0} (f : X → List ℕ) (xs : List X) (i : ℕ) (d : X) (o w z : List ℕ) (a n : ℕ) → i < length xs → w ≡ splice o a (flat_map f (take i xs)) → n ≡ a + length (flat_map f (take i xs)) → n ≤ length o → z ≡ splice w n (f (get_or xs i d)) → z ≡ splice o a (flat_map f (take (i + 1) xs))
splice-more f xs i d o w z a n l before place within written =
    written ∙ ap (λ v. splice v n (f (get_or xs i d))) before ∙ splice-splice o a n (flat_map f (take i xs)) (f (get_or xs i d)) place within ∙ ap (splice o a) (sym (joined-take-more f xs i d l))

-- what a copy into a part leaves
pub splice-mid : (a k : ℕ) (xs ys zs : List ℕ) → ys ≡ zs → k ≡ length zs → put_mid a k xs ys ≡ splice xs a zs
unfolding splice
splice-mid a k xs ys zs e h = ap (λ v. take a xs ++ (v ++ drop k (drop a xs))) e ∙ ap (λ v. take a xs ++ (zs ++ v)) (drop-drop k a xs ∙ ap (λ n. drop (a + n) xs) h)

-- writes from the front on leave what stands behind them
pub splice_front : (o x : List ℕ) → splice o 0 x ≡ x ++ drop (length x) o
unfolding splice
splice_front o x = ap (λ n. x ++ drop n o) (zero-add (length x))

-- four writes, each right after the one before
pub splice-four : (o p q r s : List ℕ) (a b c d : ℕ) (w x y z : List ℕ) → p ≡ splice o a w → q ≡ splice p b x → r ≡ splice q c y → s ≡ splice r d z →
    b ≡ a + length w → c ≡ b + length x → d ≡ c + length y → d ≤ length o → s ≡ splice o a (w ++ (x ++ (y ++ z)))
splice-four o p q r s a b c d w x y z ep eq er es eb ec ed l =
    let two : q ≡ splice o a (w ++ x) = eq ∙ ap (λ v. splice v b x) ep ∙ splice-splice o a b w x eb (omega arith) in
    let three : r ≡ splice o a ((w ++ x) ++ y) = er ∙ ap (λ v. splice v c y) two ∙ splice-splice o a c (w ++ x) y (omega (arith, length-append w x)) (omega arith) in
    let four : s ≡ splice o a (((w ++ x) ++ y) ++ z) = es ∙ ap (λ v. splice v d z) three ∙ splice-splice o a d ((w ++ x) ++ y) z (omega (arith, length-append w x, length-append (w ++ x) y)) l in
    four ∙ ap (splice o a) (append_assoc (w ++ x) y z ∙ append_assoc w x (y ++ z))
