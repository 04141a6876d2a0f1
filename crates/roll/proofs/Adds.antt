-- What a search tells, and what an answer to adding leaves.
use Rattle.std.proofs.Common.{◌≡◌, ℕ, suc, ◌+◌, ◌<◌, ◌≤◌, Bool, true, false, List, ◌++◌, length, get_or, take, drop, sym, ap, ◌∙◌, subst, add-zero, le_of_lt, add-one, arith, length-append, length-drop}
use Rattle.std.specs.List.{insert}
use Rattle.std.proofs.lemmas.List.{take_at, length-take-le, get_or_default}
use Rattle.roll.specs.Rolls.{place, entered, ascending, IsRoll}
use Rattle.roll.specs.Adding.{Stands, Goes, Adds, grown}
use Rattle.roll.specs.declared.added.Added.{Added}
use Rattle.roll.specs.declared.added.Added.TheVariants.{Entered, Present, Full}
use Rattle.roll.proofs.Places.{Irreflexive, Transitive, Connected, place_at, absent-at, entered_at}
use Rattle.roll.proofs.Rising.{entered-rising, length-entered}

-- v, read at the place of x, is not above x: it is x
pub stands_at : {X : Type 0} (lt : X → X → Bool) → Connected lt → (x v : X) (xs : List X) (at : ℕ) → at ≡ place lt x xs → at < length xs
    → v ≡ get_or xs at v → lt x v ≡ false → Stands x xs at
stands_at lt con x v xs at e h r f =
    let k : place lt x xs < length xs = omega arith in
    let b : lt (get_or xs at v) x ≡ false = subst (λ i. lt (get_or xs i v) x ≡ false) (sym e) (place_at lt x v xs k) in
    let a : lt x (get_or xs at v) ≡ false = ap (lt x) (sym r) ∙ f in
    (h, λ d. get_or_default xs at d v h ∙ con (get_or xs at v) x b a)

-- v, read at the place of x if that is within, is above x: x goes there
pub goes_at : {X : Type 0} (lt : X → X → Bool) → Irreflexive lt → (x v : X) (xs : List X) (at : ℕ) → ascending lt xs ≡ true → at ≡ place lt x xs
    → (at < length xs → (v ≡ get_or xs at v) × (lt x v ≡ true)) → Goes lt x xs at
goes_at lt ir x v xs at a e f =
    let q : place lt x xs < length xs → lt x (get_or xs (place lt x xs) v) ≡ true =
    λ k. let z = f (omega arith) in subst (λ i. lt x (get_or xs i v) ≡ true) e (ap (lt x) (sym z.0) ∙ z.1) in
    (absent-at lt ir x v xs a q, e)

-- the places after an entry was put in
pub adds-entered : {X : Type 0} (lt : X → X → Bool) (x : X) (n : ℕ) (p q : List X) (at : ℕ) → Goes lt x (take n p) at → n < length p
    → q ≡ insert (take n p) at x ++ drop (n + 1) p → Adds lt x n p Entered q
adds-entered lt x n p q at s h e =
    let i : insert (take n p) at x ≡ entered lt x (take n p) = ap (λ k. insert (take n p) k x) s.1 ∙ sym (entered_at lt x (take n p)) in
    (s.0, h, e ∙ ap (λ es. es ++ drop (n + 1) p) i)

-- the entries after an entry was put in
pub entries-after : {X : Type 0} (lt : X → X → Bool) (x : X) (n : ℕ) (p q : List X) → Adds lt x n p Entered q → take (n + 1) q ≡ entered lt x (take n p)
entries-after lt x n p q s =
    let m : length (take n p) ≡ n = length-take-le n p (le_of_lt s.1) in
    let l : length (entered lt x (take n p)) ≡ n + 1 = length-entered lt x (take n p) ∙ ap suc m ∙ sym (add-one n) in
    ap (take (n + 1)) s.2 ∙ take_at (entered lt x (take n p)) (drop (n + 1) p) (n + 1) l

-- a list is as long after adding
pub adds-length : {X : Type 0} (lt : X → X → Bool) (x : X) (n : ℕ) (p q : List X) (r : Added) → Adds lt x n p r q → length q ≡ length p
adds-length lt x n p q Entered s =
    let m : length (take n p) ≡ n = length-take-le n p (le_of_lt s.1) in
    let l = length-entered lt x (take n p) in
    let k = length-append (entered lt x (take n p)) (drop (n + 1) p) in
    let d = length-drop (n + 1) p in
    let e = ap length s.2 in
    let h = s.1 in
    omega arith
adds-length lt x n p q Present s = ap length s.1
adds-length lt x n p q Full s = ap length s.2

-- a roll stays one
pub adds-roll : {X : Type 0} (lt : X → X → Bool) → Transitive lt → Connected lt → (x : X) (n : ℕ) (p q : List X) (r : Added) → IsRoll lt n p → Adds lt x n p r q
    → IsRoll lt (n + grown r) q
adds-roll lt tr con x n p q Entered i s =
    let l = adds-length lt x n p q Entered s in
    let h = s.1 in
    record {
      fits = omega arith;
      rising = ap (ascending lt) (entries-after lt x n p q s) ∙ entered-rising lt tr con x (take n p) s.0 i.rising;
    }
adds-roll lt tr con x n p q Present i s =
    rw add-zero (subst (IsRoll lt n) (sym s.1) i)
adds-roll lt tr con x n p q Full i s =
    rw add-zero (subst (IsRoll lt n) (sym s.2) i)

-- the same, where k is how many entries more there are
pub adds-roll-by : {X : Type 0} (lt : X → X → Bool) → Transitive lt → Connected lt → (x : X) (n k : ℕ) (p q : List X) (r : Added) → k ≡ grown r → n ≤ length p → ascending lt (take n p) ≡ true → Adds lt x n p r q
    → IsRoll lt (n + k) q
adds-roll-by lt tr con x n k p q r e f a s =
    subst (λ m. IsRoll lt (n + m) q) (sym e) (adds-roll lt tr con x n p q r (record { fits = f; rising = a }) s)
