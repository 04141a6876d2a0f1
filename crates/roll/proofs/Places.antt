-- The place of a value in an ascending list.
use Rattle.std.proofs.Common.{◌≡◌, ℕ, zero, suc, ◌<◌, ◌≤◌, Bool, true, false, cond, List, [], ◌∷◌, length, get_or, sym, refl, ap, ◌∙◌, subst, ⊎_elim, arith}
use Rattle.std.specs.List.{insert, ContainsAt as Has}
use Rattle.std.proofs.lemmas.Bool.{and_parts, both_ways}
use Rattle.roll.specs.Rolls.{place, entered, under, ascending}
use Rattle.roll.proofs.Members.{has-none, has-cases}

abbrev pub Irreflexive : {X : Type 0} → (X → X → Bool) → Type 0
Irreflexive {X = X} lt = (x : X) → lt x x ≡ false

abbrev pub Transitive : {X : Type 0} → (X → X → Bool) → Type 0
Transitive {X = X} lt = (x y z : X) → lt x y ≡ true → lt y z ≡ true → lt x z ≡ true

abbrev pub Connected : {X : Type 0} → (X → X → Bool) → Type 0
Connected {X = X} lt = (x y : X) → lt x y ≡ false → lt y x ≡ false → x ≡ y

pub place-within : {X : Type 0} (lt : X → X → Bool) (x : X) (xs : List X) → place lt x xs ≤ length xs
place-within lt x [] = omega arith
place-within lt x (y ∷ ys) =
    let r = place-within lt x ys in
    let P : Bool → Type 0 = λ b. cond b (suc (place lt x ys)) 0 ≤ suc (length ys) in
    elim (lt y x) as P [ true ↦ omega arith | false ↦ omega arith ]

-- what stands at i is not below x: the place of x is not past i
pub place-le : {X : Type 0} (lt : X → X → Bool) (x d : X) (xs : List X) (i : ℕ) → i < length xs → lt (get_or xs i d) x ≡ false → place lt x xs ≤ i
place-le lt x d [] i h e = absurd (omega arith)
place-le lt x d (y ∷ ys) zero h e = rw e (omega arith)
place-le lt x d (y ∷ ys) (suc i) h e =
    let r = place-le lt x d ys i (omega arith) e in
    let P : Bool → Type 0 = λ b. cond b (suc (place lt x ys)) 0 ≤ suc i in
    elim (lt y x) as P [ true ↦ omega arith | false ↦ omega arith ]

pub under-get_or : {X : Type 0} (lt : X → X → Bool) (x d : X) (xs : List X) (i : ℕ) → under lt x xs ≡ true → i < length xs → lt x (get_or xs i d) ≡ true
under-get_or lt x d [] i u h = absurd (omega arith)
under-get_or lt x d (y ∷ ys) zero u h = (and_parts (lt x y) (under lt x ys) u).0
under-get_or lt x d (y ∷ ys) (suc i) u h = under-get_or lt x d ys i (and_parts (lt x y) (under lt x ys) u).1 (omega arith)

-- what stands at i is below x: the place of x is past i
pub place-past : {X : Type 0} (lt : X → X → Bool) → Transitive lt → (x d : X) (xs : List X) (i : ℕ) → ascending lt xs ≡ true → i < length xs → lt (get_or xs i d) x ≡ true → i < place lt x xs
place-past lt tr x d [] i a h e = absurd (omega arith)
place-past lt tr x d (y ∷ ys) zero a h e = rw e (omega arith)
place-past lt tr x d (y ∷ ys) (suc i) a h e =
    let b = and_parts (under lt y ys) (ascending lt ys) a in
    let t = tr y (get_or ys i d) x (under-get_or lt y d ys i b.0 (omega arith)) e in
    let r = place-past lt tr x d ys i b.1 (omega arith) e in
    rw t (omega arith)

-- what stands at the place of x is not below x
pub place_at : {X : Type 0} (lt : X → X → Bool) (x d : X) (xs : List X) → place lt x xs < length xs → lt (get_or xs (place lt x xs) d) x ≡ false
place_at lt x d [] h = absurd (omega arith)
place_at lt x d (y ∷ ys) h =
    let P : Bool → Type 0 = λ b. lt y x ≡ b → cond b (suc (place lt x ys)) 0 < suc (length ys) → lt (get_or (y ∷ ys) (cond b (suc (place lt x ys)) 0) d) x ≡ false in
    let p : P (lt y x) = elim (lt y x) as P [ true ↦ (λ _ k. place_at lt x d ys (omega arith)) | false ↦ (λ e _. e) ] in
    p refl h

pub entered_at : {X : Type 0} (lt : X → X → Bool) (x : X) (xs : List X) → entered lt x xs ≡ insert xs (place lt x xs) x
entered_at lt x [] = refl
entered_at lt x (y ∷ ys) =
    let P : Bool → Type 0 = λ b. cond b (y ∷ entered lt x ys) (x ∷ y ∷ ys) ≡ insert (y ∷ ys) (cond b (suc (place lt x ys)) 0) x in
    elim (lt y x) as P [ true ↦ ap (λ q. y ∷ q) (entered_at lt x ys) | false ↦ refl ]

pub under-has : {X : Type 0} (lt : X → X → Bool) (x z : X) (xs : List X) → under lt x xs ≡ true → Has xs z → lt x z ≡ true
under-has lt x z xs u h = subst (λ v. lt x v ≡ true) (h.2 x) (under-get_or lt x x xs h.0 u h.1)

never-below : {X : Type 0} (lt : X → X → Bool) → Irreflexive lt → (x y : X) → y ≡ x → lt y x ≡ true → ⊥
never-below lt ir x y e t = both_ways (lt y x) (ap (λ v. lt v x) e ∙ ir x) t

-- what stands at the place of x, if anything does, is above x: x is no entry
pub absent-at : {X : Type 0} (lt : X → X → Bool) → Irreflexive lt → (x d : X) (xs : List X) → ascending lt xs ≡ true
    → (place lt x xs < length xs → lt x (get_or xs (place lt x xs) d) ≡ true) → Has xs x → ⊥
absent-at lt ir x d [] a e h = has-none x h
absent-at lt ir x d (y ∷ ys) a e h =
    let b = and_parts (under lt y ys) (ascending lt ys) a in
    let P : Bool → Type 0 = λ b. lt y x ≡ b → (cond b (suc (place lt x ys)) 0 < suc (length ys) → lt x (get_or (y ∷ ys) (cond b (suc (place lt x ys)) 0) d) ≡ true) → ⊥ in
    let p : P (lt y x) = elim (lt y x) as P [
      | true ↦ (λ t f. ⊎_elim (λ q. never-below lt ir x y q t) (absent-at lt ir x d ys b.1 (λ k. f (omega arith))) (has-cases y x ys h))
      | false ↦ (λ t f. ⊎_elim (λ q. never-below lt ir y x (sym q) (f (omega arith))) (λ k. both_ways (lt y x) t (under-has lt y x ys b.0 k)) (has-cases y x ys h))
    ] in
    p refl e
