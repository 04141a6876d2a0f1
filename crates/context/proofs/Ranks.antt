-- Places in an ascending list of chosen numbers.
use Rattle.std.proofs.Common.{◌≡◌, ℕ, zero, suc, ◌<◌, ◌≤◌, Bool, true, false, List, [], ◌∷◌, ◌++◌, length, get_or, sym, refl, ap, ◌∙◌, subst, ⊎_elim, arith}
use mathlib.Core.Path.{subst⁻¹}
use Rattle.std.proofs.lemmas.List.{get_or_append_left, get_or_push, length_push, ext_get_or}
use Rattle.std.proofs.lemmas.Bool.{cases_Bool, cases_eq, cases_lt, cond-true, cond-false}
use Rattle.context.specs.Care.{count_below}
use Rattle.context.specs.Ranks.{chosen, Ascending}
use Rattle.context.proofs.Counts.{count_yes, count_no, count_none, count-lt, count-gap}

pub chosen-yes : (n : ℕ) (p : ℕ → Bool) → p n ≡ true → chosen (suc n) p ≡ chosen n p ++ (n ∷ [])
unfolding chosen
chosen-yes n p h = cond-true (p n) _ _ h

pub chosen-no : (n : ℕ) (p : ℕ → Bool) → p n ≡ false → chosen (suc n) p ≡ chosen n p
unfolding chosen
chosen-no n p h = cond-false (p n) _ _ h

pub chosen-length : (n : ℕ) (p : ℕ → Bool) → length (chosen n p) ≡ count_below n p
unfolding chosen count_below
chosen-length zero p = refl
chosen-length (suc n) p =
    let i = chosen-length n p in
    ⊎_elim
    (λ h. ap length (chosen-yes n p h) ∙ (let e : length (chosen n p ++ (n ∷ [])) ≡ suc (count_below n p) = omega (arith, length_push (chosen n p) n) in e) ∙ sym (count_yes n p h))
    (λ h. ap length (chosen-no n p h) ∙ i ∙ sym (count_no n p h))
    (cases_Bool (p n))

-- p and q are equal below n
pub chosen-same : (n : ℕ) (p q : ℕ → Bool) → ((a : ℕ) → a < n → p a ≡ q a) → chosen n p ≡ chosen n q
unfolding chosen
chosen-same zero p q h = refl
chosen-same (suc n) p q h =
    let a : p n ≡ q n = h n (omega arith) in
    let b : chosen n p ≡ chosen n q = chosen-same n p q (λ a l. h a (omega arith)) in
    rw (a, b)

-- a chosen number stands at its rank
pub chosen-rank : (n : ℕ) (p : ℕ → Bool) (s : ℕ) → s < n → p s ≡ true → get_or (chosen n p) (count_below s p) 0 ≡ s
chosen-rank zero p s l h = absurd (omega arith)
chosen-rank (suc n) p s l h =
    ⊎_elim
    (λ e.
    let h' : p n ≡ true = ap p (sym e) ∙ h in
    let r : count_below s p ≡ length (chosen n p) = ap (λ m. count_below m p) e ∙ sym (chosen-length n p) in
    ap (λ xs. get_or xs (count_below s p) 0) (chosen-yes n p h') ∙ get_or_push (chosen n p) n 0 (count_below s p) (sym r) ∙ sym e)
    (λ ne.
    let l' : s < n = omega arith in
    let i = chosen-rank n p s l' h in
    let q : count_below s p < length (chosen n p) = omega (arith, count-lt n s p l' h, chosen-length n p) in
    ⊎_elim
    (λ y. ap (λ xs. get_or xs (count_below s p) 0) (chosen-yes n p y) ∙ get_or_append_left (chosen n p) (n ∷ []) 0 (count_below s p) q ∙ i)
    (λ y. ap (λ xs. get_or xs (count_below s p) 0) (chosen-no n p y) ∙ i)
    (cases_Bool (p n)))
    (cases_eq s n)

-- s is one of the numbers below n that have p, with i of them below it
abbrev pub Chosen : ℕ → (ℕ → Bool) → ℕ → ℕ → Type 0
Chosen n p i s = (s < n) × (p s ≡ true) × (count_below s p ≡ i)

wider : (n : ℕ) (p : ℕ → Bool) (i s : ℕ) → Chosen n p i s → Chosen (suc n) p i s
wider n p i s c = (omega arith, c.1, c.2)

-- each number in the list is chosen, and stands at its rank
pub chosen_at : (n : ℕ) (p : ℕ → Bool) (i : ℕ) → i < length (chosen n p) → Chosen n p i (get_or (chosen n p) i 0)
unfolding chosen
chosen_at zero p i l = absurd (omega arith)
chosen_at (suc n) p i l =
    ⊎_elim
    (λ y.
    let q : i < length (chosen n p ++ (n ∷ [])) = subst (λ (xs : List ℕ). i < length xs) (chosen-yes n p y) l in
    subst⁻¹ (λ (xs : List ℕ). Chosen (suc n) p i (get_or xs i 0)) (chosen-yes n p y)
    (⊎_elim
    (λ e.
    subst⁻¹ (λ (s : ℕ). Chosen (suc n) p i s) (get_or_push (chosen n p) n 0 i (sym e)) (omega arith, y, sym (chosen-length n p) ∙ sym e))
    (λ ne.
    let q' : i < length (chosen n p) = omega (arith, length_push (chosen n p) n) in
    subst⁻¹ (λ (s : ℕ). Chosen (suc n) p i s) (get_or_append_left (chosen n p) (n ∷ []) 0 i q') (wider n p i _ (chosen_at n p i q')))
    (cases_eq i (length (chosen n p)))))
    (λ y.
    let q : i < length (chosen n p) = subst (λ (xs : List ℕ). i < length xs) (chosen-no n p y) l in
    subst⁻¹ (λ (xs : List ℕ). Chosen (suc n) p i (get_or xs i 0)) (chosen-no n p y) (wider n p i _ (chosen_at n p i q)))
    (cases_Bool (p n))

-- the list is ascending: of two numbers the one with more below it is the greater
pub chosen-ascending : (n : ℕ) (p : ℕ → Bool) → Ascending (chosen n p)
chosen-ascending n p i j l k =
    let a = chosen_at n p i (omega arith) in
    let b = chosen_at n p j k in
    let u : ℕ = get_or (chosen n p) i 0 in
    let v : ℕ = get_or (chosen n p) j 0 in
    ⊎_elim (λ h. h)
    (λ h. ⊎_elim
    (λ e. let g : count_below u p ≡ count_below v p = ap (λ m. count_below m p) e in absurd (omega arith))
    (λ ne. let g : count_below v p < count_below u p = count-lt u v p (omega arith) b.1 in absurd (omega arith))
    (cases_eq u v))
    (cases_lt u v)

-- a number that is chosen has its place in the list
pub chosen-place : (n : ℕ) (p : ℕ → Bool) (s : ℕ) → s < n → p s ≡ true → (i : ℕ) × (i < length (chosen n p)) × (get_or (chosen n p) i 0 ≡ s)
chosen-place n p s l h = (count_below s p, omega (arith, count-lt n s p l h, chosen-length n p), chosen-rank n p s l h)

-- an ascending list of just the numbers below n that have p
module _ (n : ℕ) (p : ℕ → Bool) (xs : List ℕ) (up : Ascending xs) (sound : (i : ℕ) → i < length xs → (get_or xs i 0 < n) × (p (get_or xs i 0) ≡ true))
    (whole : (s : ℕ) → s < n → p s ≡ true → (i : ℕ) × (i < length xs) × (get_or xs i 0 ≡ s)) where
  -- no number below the first one has p
  low : (i s : ℕ) → i < length xs → i ≡ 0 → s < get_or xs i 0 → p s ≡ false
  low i s l z h =
      ⊎_elim
      (λ e.
      let w = whole s (let k = (sound i l).0 in omega arith) e in
      ⊎_elim (λ (g : w.0 ≡ i). let g' : get_or xs w.0 0 ≡ get_or xs i 0 = ap (λ j. get_or xs j 0) g in let q = w.2 in absurd (omega arith))
      (λ g. let u : get_or xs i 0 < get_or xs w.0 0 = up i w.0 (omega arith) w.1 in let q = w.2 in absurd (omega arith))
      (cases_eq w.0 i))
      (λ e. e) (cases_Bool (p s))

  -- nor does one between two neighbours, nor one above the last
  between : (i s : ℕ) → i < length xs → get_or xs i 0 < s → s < n → (suc i < length xs → s < get_or xs (suc i) 0) → p s ≡ false
  between i s l a b c =
      ⊎_elim
      (λ e.
      let w = whole s b e in
      let q = w.2 in
      ⊎_elim (λ (g : w.0 ≡ i). let g' : get_or xs w.0 0 ≡ get_or xs i 0 = ap (λ j. get_or xs j 0) g in absurd (omega arith))
      (λ g. ⊎_elim
      (λ (h : w.0 < i). let u : get_or xs w.0 0 < get_or xs i 0 = up w.0 i h l in absurd (omega arith))
      (λ (h : i ≤ w.0).
      let r = w.1 in
      let d : s < get_or xs (suc i) 0 = c (omega arith) in
      ⊎_elim (λ (k : w.0 ≡ suc i). let k' : get_or xs w.0 0 ≡ get_or xs (suc i) 0 = ap (λ j. get_or xs j 0) k in absurd (omega arith))
      (λ k. let u : get_or xs (suc i) 0 < get_or xs w.0 0 = up (suc i) w.0 (omega arith) r in absurd (omega arith))
      (cases_eq w.0 (suc i)))
      (cases_lt w.0 i))
      (cases_eq w.0 i))
      (λ e. e) (cases_Bool (p s))

  -- each stands at its rank
  rank : (i : ℕ) → i < length xs → count_below (get_or xs i 0) p ≡ i
  rank zero l = count_none (get_or xs 0 0) p (λ s k. low 0 s l refl k)
  rank (suc i) l =
      let l' : i < length xs = omega arith in
      let u : get_or xs i 0 < get_or xs (suc i) 0 = up i (suc i) (omega arith) l in
      let b = (sound (suc i) l).0 in
      count-gap (get_or xs (suc i) 0) (suc (get_or xs i 0)) p (omega arith) (λ s k m. between i s l' (omega arith) (omega arith) (λ _. m))
      ∙ count_yes (get_or xs i 0) p (sound i l').1 ∙ ap suc (rank i l')

  ranks : (m : ℕ) → length xs ≡ m → m ≡ count_below n p
  ranks zero e =
      sym (count_none n p (λ s k. ⊎_elim (λ h. let w = whole s k h in let q = w.1 in absurd (omega arith)) (λ h. h) (cases_Bool (p s))))
  ranks (suc i) e =
      let l : i < length xs = omega arith in
      let b = (sound i l).0 in
      sym (count-gap n (suc (get_or xs i 0)) p (omega arith) (λ s k m. between i s l (omega arith) m (λ (q : suc i < length xs). absurd (omega arith)))
      ∙ count_yes (get_or xs i 0) p (sound i l).1 ∙ ap suc (rank i l))

  pub chosen-only : xs ≡ chosen n p
  chosen-only =
      ext_get_or 0 xs (chosen n p) (ranks (length xs) refl ∙ sym (chosen-length n p))
      (λ i l. sym (ap (λ j. get_or (chosen n p) j 0) (sym (rank i l)) ∙ chosen-rank n p (get_or xs i 0) (sound i l).0 (sound i l).1))
