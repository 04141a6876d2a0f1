-- Ascending lists: one entry more, no two equal, and one list for one set of entries.
use Rattle.std.proofs.Common.{◌≡◌, ℕ, zero, suc, ◌<◌, Bool, true, false, cond, ◌⊎◌, List, [], ◌∷◌, length, get_or, sym, refl, ap, ◌∙◌, ap₂, inl, inr, ⊎_elim, arith}
use Rattle.std.specs.List.{ContainsAt as Has}
use Rattle.std.proofs.lemmas.Bool.{and_parts, and_from, both_ways}
use Rattle.roll.specs.Rolls.{entered, under, ascending, Distinct}
use Rattle.roll.proofs.Members.{has-none, has_here, has_there, has-cases}
use Rattle.roll.proofs.Places.{Irreflexive, Transitive, Connected, under-get_or, under-has}

under-less : {X : Type 0} (lt : X → X → Bool) → Transitive lt → (x y : X) (ys : List X) → lt x y ≡ true → under lt y ys ≡ true → under lt x ys ≡ true
under-less lt tr x y [] h u = refl
under-less lt tr x y (z ∷ zs) h u =
    let b = and_parts (lt y z) (under lt y zs) u in
    and_from (lt x z) (under lt x zs) (tr x y z h b.0) (under-less lt tr x y zs h b.1)

under-entered : {X : Type 0} (lt : X → X → Bool) (z x : X) (xs : List X) → lt z x ≡ true → under lt z xs ≡ true → under lt z (entered lt x xs) ≡ true
under-entered lt z x [] h u = and_from (lt z x) true h refl
under-entered lt z x (y ∷ ys) h u =
    let b = and_parts (lt z y) (under lt z ys) u in
    let P : Bool → Type 0 = λ b. under lt z (cond b (y ∷ entered lt x ys) (x ∷ y ∷ ys)) ≡ true in
    elim (lt y x) as P [
      | true ↦ and_from (lt z y) (under lt z (entered lt x ys)) b.0 (under-entered lt z x ys h b.1)
      | false ↦ and_from (lt z x) (under lt z (y ∷ ys)) h u
    ]

-- of two values that are not equal and of which the one is not below the other, the other is
above : {X : Type 0} (lt : X → X → Bool) → Connected lt → (x y : X) → lt y x ≡ false → (y ≡ x → ⊥) → lt x y ≡ true
above lt con x y e n =
    let P : Bool → Type 0 = λ b. lt x y ≡ b → b ≡ true in
    let p : P (lt x y) = elim (lt x y) as P [ true ↦ (λ _. refl) | false ↦ (λ f. absurd (n (con y x e f))) ] in
    p refl

-- an absent value, entered, leaves the list ascending
pub entered-rising : {X : Type 0} (lt : X → X → Bool) → Transitive lt → Connected lt → (x : X) (xs : List X) → (Has xs x → ⊥) → ascending lt xs ≡ true → ascending lt (entered lt x xs) ≡ true
entered-rising lt tr con x [] n a = refl
entered-rising lt tr con x (y ∷ ys) n a =
    let b = and_parts (under lt y ys) (ascending lt ys) a in
    let P : Bool → Type 0 = λ b. lt y x ≡ b → ascending lt (cond b (y ∷ entered lt x ys) (x ∷ y ∷ ys)) ≡ true in
    let p : P (lt y x) = elim (lt y x) as P [
      | true ↦ (λ t. and_from (under lt y (entered lt x ys)) (ascending lt (entered lt x ys)) (under-entered lt y x ys t b.0) (entered-rising lt tr con x ys (λ h. n (has_there y x ys h)) b.1))
      | false ↦ (λ t.
          let u = above lt con x y t (λ e. n (has_here y x ys e)) in
          and_from (under lt x (y ∷ ys)) (ascending lt (y ∷ ys)) (and_from (lt x y) (under lt x ys) u (under-less lt tr x y ys u b.0)) a)
    ] in
    p refl

-- each entry is below every later one
pub rising-get_or : {X : Type 0} (lt : X → X → Bool) (d : X) (xs : List X) (i j : ℕ) → ascending lt xs ≡ true → i < j → j < length xs → lt (get_or xs i d) (get_or xs j d) ≡ true
rising-get_or lt d [] i j a h k = absurd (omega arith)
rising-get_or lt d (x ∷ xs) i zero a h k = absurd (omega arith)
rising-get_or lt d (x ∷ xs) zero (suc j) a h k = under-get_or lt x d xs j (and_parts (under lt x xs) (ascending lt xs) a).0 (omega arith)
rising-get_or lt d (x ∷ xs) (suc i) (suc j) a h k = rising-get_or lt d xs i j (and_parts (under lt x xs) (ascending lt xs) a).1 (omega arith) (omega arith)

pub rising-distinct : {X : Type 0} (lt : X → X → Bool) → Irreflexive lt → (xs : List X) → ascending lt xs ≡ true → Distinct xs
rising-distinct lt ir xs a i j d h k e =
    both_ways (lt (get_or xs i d) (get_or xs j d)) (ap (λ v. lt v (get_or xs j d)) e ∙ ir (get_or xs j d)) (rising-get_or lt d xs i j a h k)

-- what is an entry once x is entered
pub has-entered : {X : Type 0} (lt : X → X → Bool) (x z : X) (xs : List X) → Has (entered lt x xs) z → (x ≡ z) ⊎ Has xs z
has-entered lt x z [] h = has-cases x z [] h
has-entered lt x z (y ∷ ys) h =
    let P : Bool → Type 0 = λ b. Has (cond b (y ∷ entered lt x ys) (x ∷ y ∷ ys)) z → (x ≡ z) ⊎ Has (y ∷ ys) z in
    let p : P (lt y x) = elim (lt y x) as P [
      | true ↦ (λ k. ⊎_elim (λ e. inr (has_here y z ys e)) (λ m. ⊎_elim inl (λ q. inr (has_there y z ys q)) (has-entered lt x z ys m)) (has-cases y z (entered lt x ys) k))
      | false ↦ (λ k. has-cases x z (y ∷ ys) k)
    ] in
    p h

pub entered-has : {X : Type 0} (lt : X → X → Bool) (x z : X) (xs : List X) → (x ≡ z) ⊎ Has xs z → Has (entered lt x xs) z
entered-has lt x z [] h = ⊎_elim (has_here x z []) (λ k. absurd (has-none z k)) h
entered-has lt x z (y ∷ ys) h =
    let P : Bool → Type 0 = λ b. Has (cond b (y ∷ entered lt x ys) (x ∷ y ∷ ys)) z in
    elim (lt y x) as P [
      | true ↦ ⊎_elim (λ e. has_there y z (entered lt x ys) (entered-has lt x z ys (inl e)))
          (λ k. ⊎_elim (has_here y z (entered lt x ys)) (λ m. has_there y z (entered lt x ys) (entered-has lt x z ys (inr m))) (has-cases y z ys k)) h
      | false ↦ ⊎_elim (has_here x z (y ∷ ys)) (has_there x z (y ∷ ys)) h
    ]

pub length-entered : {X : Type 0} (lt : X → X → Bool) (x : X) (xs : List X) → length (entered lt x xs) ≡ suc (length xs)
length-entered lt x [] = refl
length-entered lt x (y ∷ ys) =
    let P : Bool → Type 0 = λ b. length (cond b (y ∷ entered lt x ys) (x ∷ y ∷ ys)) ≡ suc (suc (length ys)) in
    elim (lt y x) as P [ true ↦ ap suc (length-entered lt x ys) | false ↦ refl ]

-- two lists with the same entries begin with the same one
first-same : {X : Type 0} (lt : X → X → Bool) → Irreflexive lt → Transitive lt → (x y : X) (xs ys : List X) → under lt x xs ≡ true → under lt y ys ≡ true
    → Has (y ∷ ys) x → Has (x ∷ xs) y → x ≡ y
first-same lt ir tr x y xs ys u v hx hy =
    ⊎_elim sym
    (λ k. ⊎_elim (λ e. e) (λ l. absurd (both_ways (lt x x) (ir x) (tr x y x (under-has lt x y xs u l) (under-has lt y x ys v k)))) (has-cases x y xs hy))
    (has-cases y x ys hx)

-- an entry of the rest is an entry of the other rest
rest_has : {X : Type 0} (lt : X → X → Bool) → Irreflexive lt → (x y z : X) (xs ys : List X) → x ≡ y → under lt x xs ≡ true → Has xs z → Has (y ∷ ys) z → Has ys z
rest_has lt ir x y z xs ys e u h k =
    ⊎_elim (λ q. absurd (both_ways (lt x z) (ap (λ v. lt v z) (e ∙ q) ∙ ir z) (under-has lt x z xs u h))) (λ m. m) (has-cases y z ys k)

-- ascending lists with the same entries are equal
pub same_entries : {X : Type 0} (lt : X → X → Bool) → Irreflexive lt → Transitive lt → (xs ys : List X) → ascending lt xs ≡ true → ascending lt ys ≡ true
    → ((z : X) → Has xs z → Has ys z) → ((z : X) → Has ys z → Has xs z) → xs ≡ ys
same_entries lt ir tr [] [] a b f g = refl
same_entries lt ir tr [] (y ∷ ys) a b f g = absurd (has-none y (g y (has_here y y ys refl)))
same_entries lt ir tr (x ∷ xs) [] a b f g = absurd (has-none x (f x (has_here x x xs refl)))
same_entries lt ir tr (x ∷ xs) (y ∷ ys) a b f g =
    let p = and_parts (under lt x xs) (ascending lt xs) a in
    let q = and_parts (under lt y ys) (ascending lt ys) b in
    let e : x ≡ y = first-same lt ir tr x y xs ys p.0 q.0 (f x (has_here x x xs refl)) (g y (has_here y y ys refl)) in
    ap₂ (λ h t. h ∷ t) e (same_entries lt ir tr xs ys p.1 q.1
    (λ z h. rest_has lt ir x y z xs ys e p.0 h (f z (has_there x z xs h)))
    (λ z h. rest_has lt ir y x z ys xs (sym e) q.0 h (g z (has_there y z ys h))))
